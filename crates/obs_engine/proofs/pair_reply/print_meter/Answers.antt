use Rattle.std.proofs.Common.{◌≡◌, ◌∙◌, ◌<◌, [], ◌∷◌, List, ℕ, ap, arith, length, subst, sym}
use Rattle.std.specs.Prelude.{slice_index}
use Rattle.obs_engine.specs.PairReply.{class_line, class_lines}
use Rattle.obs_engine.proofs.Studied.{class_below, classes_many, lone_lines, member_lines, nothing_as}
use Rattle.obs_engine.proofs.pair_reply.print_meter.Goals as goal

pub has_partner-requires : goal.has_partner-requires
has_partner-requires g c = record { m = omega (arith, c.requires.meter, classes_many c.args.case.now, ap (λ (xs : List ℕ). length xs) c.requires.classes) }

pub bounds-list-m : goal.bounds-list-m
bounds-list-m g c = omega (arith, c.requires.meter, classes_many c.args.case.now, ap (λ (xs : List ℕ). length xs) (c.list.ensures.list ∙ c.requires.classes))

pub print_member-requires : goal.print_member-requires
print_member-requires g c = record {
  class = subst (λ (xs : List ℕ). slice_index xs c.args.m < length c.args.case.now.meters) (sym (c.list.ensures.list ∙ c.requires.classes)) (class_below c.args.case.now c.args.m c.requires.meter);
  meter = c.requires.meter;
}

pub returns-then-has_partner : goal.returns-then-has_partner
returns-then-has_partner g c =
    let t = c.args.case.now in
    let classes = c.args.work.now.list in
    let m = c.args.m in
    let same : class_line t (slice_index c.list.result.now m) m ≡ class_lines t classes (m ∷ []) =
    ap (λ (xs : List ℕ). class_line t (slice_index xs m) m) c.list.ensures.list ∙ member_lines t classes m (sym c.has_partner.ensures.partner ∙ c.if-has_partner.true) in
    record { printed = rw same at c.print_member.ensures.printed }

pub returns-else-has_partner : goal.returns-else-has_partner
returns-else-has_partner g c =
    record { printed = nothing_as c.args.lines.now.outcome _ (lone_lines c.args.case.now c.args.work.now.list c.args.m (sym c.has_partner.ensures.partner ∙ c.if-has_partner.false)) }

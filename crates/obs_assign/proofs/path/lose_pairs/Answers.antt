use Rattle.std.proofs.Common.{◌≡◌, ◌+◌, List, None, Option, ℕ, drop, get_or, subst, sym, ap, arith}
use Rattle.std.proofs.lemmas.List.{drop_all, drop_more}
use Rattle.obs_matroid.proofs.Contained.{All-from_In}
use Rattle.obs_assign.specs.declared.Move.{Move}
use Rattle.obs_assign.specs.inner.Kept.{Kept, with_slots}
use Rattle.obs_assign.proofs.Over.{IsOver-new, over-next}
use Rattle.obs_assign.proofs.Stepping.{IsLosing, Losing-begun, Losing-ended, Losing-more}
use Rattle.obs_assign.proofs.path.lose_pairs.Goals as goal

pub loop-x-init : goal.loop-x-init
loop-x-init c = record { held = c.requires.over; losing = Losing-begun c.args.path.now c.args.kept.now.slots }

pub lose-requires-clause-over : goal.lose-requires-clause-over
lose-requires-clause-over c = let l = c.loop-x in IsOver-new c.args.kept.now l.kept c.args.g.now l.kept.slots l.invariant.held

pub lose-requires-clause-m : goal.lose-requires-clause-m
lose-requires-clause-m c =
    let l = c.loop-x in
    let none : Move = record { meter = 0; branch = 0 } in
    omega (arith, c.requires.low l.x-index none c.loop-x-test.true, l.invariant.losing.len)

pub loop-x-preserved : goal.loop-x-preserved
loop-x-preserved c =
    let a = c.args in
    let l = c.loop-x in
    let path = a.path.now in
    let before = a.kept.now.slots in
    let none : Move = record { meter = 0; branch = 0 } in
    let x = get_or path l.x-index none in
    let rest = drop (l.x-index + 1) path in
    let h = subst (λ (m : List Move). IsLosing path before m l.kept.slots) (drop_more path l.x-index none c.loop-x-test.true) l.invariant.losing in
    let slots = ap (λ (k : Kept). k.slots) c.lose.ensures.lost in
    record {
      held = subst (λ (s : List (Option ℕ)). c.lose.new.self ≡ with_slots a.kept.now a.g.now s) (sym slots) (over-next a.kept.now l.kept c.lose.new.self a.g.now _ l.invariant.held c.lose.ensures.lost);
      losing = subst (λ (s : List (Option ℕ)). IsLosing path before rest s) (sym slots) (Losing-more path before x rest l.kept.slots h);
    }

pub returns-clause-bare : goal.returns-clause-bare
returns-clause-bare c =
    let a = c.args in
    let l = c.loop-x in
    let path = a.path.now in
    let before = a.kept.now.slots in
    All-from_In (λ (x : Move). get_or l.kept.slots x.meter None ≡ None) path
    (Losing-ended path before l.kept.slots (subst (λ (m : List Move). IsLosing path before m l.kept.slots) (drop_all l.x-index path (let f = c.loop-x-test.false in omega (arith, f))) l.invariant.losing))

pub returns-clause-moved : goal.returns-clause-moved
returns-clause-moved c = c.loop-x.invariant.losing.moved_are

pub returns-clause-meters : goal.returns-clause-meters
returns-clause-meters c = c.loop-x.invariant.losing.len

pub returns-clause-held : goal.returns-clause-held
returns-clause-held c = c.loop-x.invariant.held

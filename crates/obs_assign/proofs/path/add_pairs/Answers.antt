use Rattle.std.proofs.Common.{◌≡◌, ◌+◌, List, Option, ℕ, drop, get_or, subst, sym, ap, inl, refl, arith}
use Rattle.std.proofs.lemmas.List.{drop_all, drop_more}
use Rattle.obs_assign.specs.declared.Move.{Move}
use Rattle.obs_assign.specs.inner.Kept.{Kept, with_slots}
use Rattle.obs_assign.proofs.Over.{IsOver-new, over-next}
use Rattle.obs_assign.proofs.Stepping.{Adding-begun, Adding-forest, Adding-more, IsAdding}
use Rattle.obs_assign.proofs.path.add_pairs.Goals as goal

pub loop-x-init : goal.loop-x-init
loop-x-init c = let r = c.requires in record { held = r.over; adding = Adding-begun c.args.path.now c.args.kept.now.slots r.low r.different r.bare }

pub add-requires-clause-over : goal.add-requires-clause-over
add-requires-clause-over c = let l = c.loop-x in IsOver-new c.args.kept.now l.kept c.args.g.now l.kept.slots l.invariant.held

pub add-requires-clause-meter : goal.add-requires-clause-meter
add-requires-clause-meter c =
    let l = c.loop-x in
    let path = c.args.path.now in
    let none : Move = record { meter = 0; branch = 0 } in
    let h = subst (λ (m : List Move). IsAdding path c.args.kept.now.slots m l.kept.slots) (drop_more path l.x-index none c.loop-x-test.true) l.invariant.adding in
    h.low (get_or path l.x-index none) (inl refl)

pub add-requires-clause-bare : goal.add-requires-clause-bare
add-requires-clause-bare c =
    let l = c.loop-x in
    let path = c.args.path.now in
    let none : Move = record { meter = 0; branch = 0 } in
    let h = subst (λ (m : List Move). IsAdding path c.args.kept.now.slots m l.kept.slots) (drop_more path l.x-index none c.loop-x-test.true) l.invariant.adding in
    h.bare (get_or path l.x-index none) (inl refl)

pub add-requires-clause-forest : goal.add-requires-clause-forest
add-requires-clause-forest c =
    let l = c.loop-x in
    let path = c.args.path.now in
    let before = c.args.kept.now.slots in
    let none : Move = record { meter = 0; branch = 0 } in
    let h = subst (λ (m : List Move). IsAdding path before m l.kept.slots) (drop_more path l.x-index none c.loop-x-test.true) l.invariant.adding in
    Adding-forest path before (get_or path l.x-index none) (drop (l.x-index + 1) path) l.kept.slots h c.args.g.now.ends c.requires.forest

pub loop-x-preserved : goal.loop-x-preserved
loop-x-preserved c =
    let a = c.args in
    let l = c.loop-x in
    let path = a.path.now in
    let before = a.kept.now.slots in
    let none : Move = record { meter = 0; branch = 0 } in
    let x = get_or path l.x-index none in
    let rest = drop (l.x-index + 1) path in
    let h = subst (λ (m : List Move). IsAdding path before m l.kept.slots) (drop_more path l.x-index none c.loop-x-test.true) l.invariant.adding in
    let slots = ap (λ (k : Kept). k.slots) c.add.ensures.added in
    record {
      held = subst (λ (s : List (Option ℕ)). c.add.new.self ≡ with_slots a.kept.now a.g.now s) (sym slots) (over-next a.kept.now l.kept c.add.new.self a.g.now _ l.invariant.held c.add.ensures.added);
      adding = subst (λ (s : List (Option ℕ)). IsAdding path before rest s) (sym slots) (Adding-more path before x rest l.kept.slots h);
    }

pub returns : goal.returns
returns c =
    let a = c.args in
    let l = c.loop-x in
    let path = a.path.now in
    let h = subst (λ (m : List Move). IsAdding path a.kept.now.slots m l.kept.slots) (drop_all l.x-index path (let f = c.loop-x-test.false in omega (arith, f))) l.invariant.adding in
    record { moved = subst (λ (s : List (Option ℕ)). l.kept ≡ with_slots a.kept.now a.g.now s) h.moved_are l.invariant.held }

use Rattle.std.proofs.Common.{◌≡◌, ℕ, true, Option, Some, None, get_or, set, length, refl, ap, sym, ◌∙◌, subst, length-set, arith}
use Rattle.std.specs.Prelude.{is_some}
use Rattle.obs_graph.specs.Positions.{IsForestAt}
use Rattle.obs_matroid.specs.Assignments.{branches}
use Rattle.obs_matroid.specs.inner.Slots.{pairs_of}
use Rattle.obs_matroid.proofs.Lists.{clash}
use Rattle.obs_assign.specs.inner.Kept.{Kept, with_slots}
use Rattle.obs_assign.proofs.Keeping.{slot_without}
use Rattle.obs_assign.proofs.Over.{IsOver-new, over_stands}
use Rattle.obs_assign.proofs.Pinning.{some_there}
use Rattle.obs_assign.proofs.spare.put_pin.Goals as goal

pub hand-requires-clause-next : goal.hand-requires-clause-next
hand-requires-clause-next c =
    let r = c.requires in
    let e = c.args.pin.branch in
    let o = some_there (get_or c.owners.result.now e None) (sym c.is_some.ensures ∙ c.if-is_some.true) in
    let at = (c.owners.ensures.inverse o.0 e).1 o.1 in
    ap (λ (k : ℕ). get_or c.args.kept.now.slots k None) (sym (r.spare o.0 at)) ∙ at

pub returns-then-is_some : goal.returns-then-is_some
returns-then-is_some c = record { pinned = c.hand.ensures.handed c.args.g.now c.requires.over }

pub add-requires-clause-over : goal.add-requires-clause-over
add-requires-clause-over c = IsOver-new c.args.kept.now c.lose.new.self c.args.g.now _ c.lose.ensures.lost

pub add-requires-clause-meter : goal.add-requires-clause-meter
add-requires-clause-meter c = omega (arith, c.requires.m, ap (λ (k : Kept). length k.slots) c.lose.ensures.lost, length-set c.args.kept.now.slots c.args.x None)

pub add-requires-clause-bare : goal.add-requires-clause-bare
add-requires-clause-bare c = by_option (get_or c.lose.new.self.slots c.args.pin.meter None) refl
  where
    by_option : (o : Option ℕ) → get_or c.lose.new.self.slots c.args.pin.meter None ≡ o → o ≡ None
    by_option None at = refl
    by_option (Some f) at =
        let r = c.requires in
        let m = c.args.pin.meter in
        let w = slot_without c.args.kept.now.slots c.args.x m f (ap (λ (k : Kept). get_or k.slots m None) (sym c.lose.ensures.lost) ∙ at) in
        let same = r.bare f w.1 in
        let owned = (c.owners.ensures.inverse m f).0 w.1 in
        let is : is_some (get_or c.owners.result.now c.args.pin.branch None) ≡ true = ap (λ (k : ℕ). is_some (get_or c.owners.result.now k None)) (sym same) ∙ ap is_some owned in
        clash is (sym c.is_some.ensures ∙ c.if-is_some.false)

pub add-requires-clause-forest : goal.add-requires-clause-forest
add-requires-clause-forest c =
    subst (λ (k : Kept). IsForestAt c.args.g.now.ends (branches (pairs_of (set k.slots c.args.pin.meter (Some c.args.pin.branch))))) (sym c.lose.ensures.lost) c.requires.forest

pub returns : goal.returns
returns c =
    record {
      pinned = subst (λ (k : Kept). c.add.new.self ≡ with_slots k c.args.g.now (set k.slots c.args.pin.meter (Some c.args.pin.branch))) c.lose.ensures.lost c.add.ensures.added;
    }

pub bounds-owners-pin : goal.bounds-owners-pin
bounds-owners-pin c = omega (arith, c.requires.e, (over_stands c.args.kept.now c.args.g.now c.requires.over).positions, c.owners.ensures.room)

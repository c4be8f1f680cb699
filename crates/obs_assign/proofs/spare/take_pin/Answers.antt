use Rattle.std.proofs.Common.{◌≡◌, ℕ, Option, None, List, get_or, length, ap, sym, ◌∙◌, subst, length-set, arith}
use Rattle.obs_graph.specs.Positions.{IsForestAt}
use Rattle.obs_matroid.specs.Assignments.{branches}
use Rattle.obs_matroid.specs.inner.Slots.{pairs_of}
use Rattle.obs_assign.specs.inner.Kept.{Kept, with_slots}
use Rattle.obs_assign.specs.inner.Pins.{pinned_slots}
use Rattle.obs_assign.proofs.Keeping.{slot_without}
use Rattle.obs_assign.proofs.Over.{IsOver-new}
use Rattle.obs_assign.proofs.Pinning.{nothing, pinned-lost}
use Rattle.obs_assign.proofs.Slotted.{none_some}
use Rattle.obs_assign.proofs.spare.take_pin.Goals as goal

pub put_pin-requires-clause-over : goal.put_pin-requires-clause-over
put_pin-requires-clause-over c = IsOver-new c.args.kept.now c.lose.new.self c.args.g.now _ c.lose.ensures.lost

pub put_pin-requires-clause-m : goal.put_pin-requires-clause-m
put_pin-requires-clause-m c = omega (arith, c.requires.m, ap (λ (k : Kept). length k.slots) c.lose.ensures.lost, length-set c.args.kept.now.slots c.args.pin.meter None)

pub put_pin-requires-clause-x : goal.put_pin-requires-clause-x
put_pin-requires-clause-x c = omega (arith, c.requires.x, ap (λ (k : Kept). length k.slots) c.lose.ensures.lost, length-set c.args.kept.now.slots c.args.pin.meter None)

pub put_pin-requires-clause-bare : goal.put_pin-requires-clause-bare
put_pin-requires-clause-bare c = λ f h.
    let m = c.args.pin.meter in
    absurd (none_some f (sym (nothing c.args.kept.now.slots m) ∙ (ap (λ (k : Kept). get_or k.slots m None) (sym c.lose.ensures.lost) ∙ h)))

pub put_pin-requires-clause-spare : goal.put_pin-requires-clause-spare
put_pin-requires-clause-spare c = λ y h.
    c.requires.spare y (slot_without c.args.kept.now.slots c.args.pin.meter y c.args.pin.branch (ap (λ (k : Kept). get_or k.slots y None) (sym c.lose.ensures.lost) ∙ h)).1

pub put_pin-requires-clause-forest : goal.put_pin-requires-clause-forest
put_pin-requires-clause-forest c =
    let m = c.args.pin.meter in
    let e = c.args.pin.branch in
    subst (λ (k : Kept). IsForestAt c.args.g.now.ends (branches (pairs_of (pinned_slots k.slots m e c.args.x)))) (sym c.lose.ensures.lost)
    (subst (λ (s : List (Option ℕ)). IsForestAt c.args.g.now.ends (branches (pairs_of s))) (sym (pinned-lost c.args.kept.now.slots m e c.args.x)) c.requires.forest)

pub returns-then-has_other : goal.returns-then-has_other
returns-then-has_other c =
    let m = c.args.pin.meter in
    let e = c.args.pin.branch in
    record {
      pinned = subst (λ (s : List (Option ℕ)). c.put_pin.new.kept ≡ with_slots c.args.kept.now c.args.g.now s) (pinned-lost c.args.kept.now.slots m e c.args.x)
          (subst (λ (k : Kept). c.put_pin.new.kept ≡ with_slots k c.args.g.now (pinned_slots k.slots m e c.args.x)) c.lose.ensures.lost c.put_pin.ensures.pinned);
    }

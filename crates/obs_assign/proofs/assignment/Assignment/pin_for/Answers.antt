use Rattle.std.proofs.Common.{◌≡◌, ◌<◌, ◌≤◌, ◌+◌, ℕ, false, true, List, length, set, refl, ap, sym, ◌∙◌, subst, length-set}
use Rattle.obs_graph.specs.Graph.{Graph}
use Rattle.obs_matroid.specs.inner.Slots.{pairs_of}
use Rattle.obs_meter.specs.declared.Touch.{Touch}
use Rattle.obs_assign.specs.Assignment.{Assignment}
use Rattle.obs_assign.specs.inner.Assignment.{HasRoomOf, StandsOver, is_frozen, pairs}
use Rattle.obs_assign.specs.inner.Kept.{Kept, seen}
use Rattle.obs_assign.specs.inner.Pins.{IsPinnedAt}
use Rattle.obs_assign.specs.inner.Spare.{IsSpare}
use Rattle.obs_assign.proofs.Keeping.{HasArrays-same}
use Rattle.obs_assign.proofs.Over.{HasRoomOf-with, IsOver-made}
use Rattle.obs_assign.proofs.Pinned.{IsPinnedNew, IsPinnedNew-made, forest_pinned, spare_owner}
use Rattle.obs_assign.proofs.assignment.Assignment.pin_for.Goals as goal
use Rattle.obs_assign.proofs.assignment.Assignment.pin_for.Given.{Over}
use Rattle.obs_assign.proofs.assignment.Assignment.pin_for.Goals.{Start, After-turn-self-inside}

-- what is known before the pairs change: x is spare for the pin
record IsReady (a : Assignment) (g : Graph) (touches : List Touch) (m e x : ℕ) : Type 0 where
  stands : StandsOver a g touches
  low : m < length a.slots
  thawed : is_frozen a m ≡ false
  spare : IsSpare g.ends a.slots a.frozen m e x

asked : (g : Over) (c : Start g) → IsReady c.args.self.now c.args.g.now c.args.ms.now.touches c.args.m c.args.e c.args.x
asked g c = let r = c.requires in record { stands = r.stands; low = r.m; thawed = r.thawed; spare = r.spare }

ready : (a now : Assignment) (g : Graph) (touches : List Touch) (m e x : ℕ) → a ≡ now → IsReady now g touches m e x → IsReady a g touches m e x
ready a now g touches m e x is h = subst (λ (b : Assignment). IsReady b g touches m e x) (sym is) h

pub take_pin-requires-clause-over : goal.take_pin-requires-clause-over
take_pin-requires-clause-over g c = IsOver-made c.self.inside.kept c.args.g.now (ready _ _ _ _ _ _ _ c.self.view_is (asked g (goal.at.take_pin-requires-clause-over g c).Start)).stands.forest c.self.invariant.whole.paired.holds

pub take_pin-requires-clause-m : goal.take_pin-requires-clause-m
take_pin-requires-clause-m g c = (ready _ _ _ _ _ _ _ c.self.view_is (asked g (goal.at.take_pin-requires-clause-m g c).Start)).low

pub take_pin-requires-clause-x : goal.take_pin-requires-clause-x
take_pin-requires-clause-x g c = (ready _ _ _ _ _ _ _ c.self.view_is (asked g (goal.at.take_pin-requires-clause-x g c).Start)).spare.low

pub take_pin-requires-clause-spare : goal.take_pin-requires-clause-spare
take_pin-requires-clause-spare g c =
    let ins = c.self.inside in
    let r = ready _ _ _ _ _ _ _ c.self.view_is (asked g (goal.at.take_pin-requires-clause-spare g c).Start) in
    spare_owner c.args.g.now.vertices c.args.g.now c.args.ms.now.touches (seen ins.kept ins.frozen.items ins.turns) c.vertices.ensures.branches c.self.invariant.whole r.stands c.args.m c.args.e c.args.x r.low c.requires.touched r.thawed r.spare

pub take_pin-requires-clause-forest : goal.take_pin-requires-clause-forest
take_pin-requires-clause-forest g c =
    let ins = c.self.inside in
    let r = ready _ _ _ _ _ _ _ c.self.view_is (asked g (goal.at.take_pin-requires-clause-forest g c).Start) in
    forest_pinned c.args.g.now.vertices c.args.g.now c.args.ms.now.touches (seen ins.kept ins.frozen.items ins.turns) c.vertices.ensures.branches c.self.invariant.whole r.stands c.args.m c.args.e c.args.x r.low c.requires.touched r.thawed r.spare

-- the assignment that is seen afterwards
made : (g : Over) (c : After-turn-self-inside g) → IsReady (seen c.self.inside.kept c.self.inside.frozen.items c.self.inside.turns) c.args.g.now c.args.ms.now.touches c.args.m c.args.e c.args.x
    → IsPinnedNew (seen c.self.inside.kept c.self.inside.frozen.items c.self.inside.turns) c.args.g.now c.args.ms.now.touches c.args.m c.args.e c.args.x
    (seen c.take_pin.new.kept (set c.self.inside.frozen.items c.args.m true) c.turn-self-inside.result)
made g c r =
    let ins = c.self.inside in
    let inv = c.self.invariant in
    let turns = c.turn-self-inside.result in
    subst (λ (k : Kept). IsPinnedNew (seen ins.kept ins.frozen.items ins.turns) c.args.g.now c.args.ms.now.touches c.args.m c.args.e c.args.x (seen k (set ins.frozen.items c.args.m true) turns)) (sym c.take_pin.ensures.pinned)
    (IsPinnedNew-made c.args.g.now.vertices c.args.g.now c.args.ms.now.touches ins.kept ins.frozen.items ins.turns turns c.args.m c.args.e c.args.x c.vertices.ensures.branches inv.whole inv.frozen_len r.stands r.low c.requires.touched r.thawed r.spare)

room : (g : Over) (c : After-turn-self-inside g) → HasRoomOf (seen c.self.inside.kept c.self.inside.frozen.items c.self.inside.turns) (seen c.take_pin.new.kept (set c.self.inside.frozen.items c.args.m true) c.turn-self-inside.result)
room g c = let ins = c.self.inside in HasRoomOf-with ins.kept c.take_pin.new.kept c.args.g.now _ ins.frozen.items (set ins.frozen.items c.args.m true) ins.turns c.turn-self-inside.result c.take_pin.ensures.pinned

pub invariant_of-self : goal.invariant_of-self
invariant_of-self g c =
    let a = (goal.at.invariant_of-self g c).After-turn-self-inside in
    let u = (goal.at.invariant_of-self g c).Start in
    HasArrays-same _ _ _ _ _ _ _ _ _ _ c.self.invariant (made g a (ready _ _ _ _ _ _ _ c.self.view_is (asked g u))).whole (room g a) (length-set c.self.inside.frozen.items c.args.m true) refl refl refl

pub returns-clause-pinned : goal.returns-clause-pinned
returns-clause-pinned g c =
    let a = (goal.at.returns-clause-pinned g c).After-turn-self-inside in
    let u = (goal.at.returns-clause-pinned g c).Start in
    subst (λ (b : Assignment). IsPinnedAt b c.args.g.now.ends c.args.m c.args.e c.take_pin.new.kept.slots c.args.x) c.self.view_is (made g a (ready _ _ _ _ _ _ _ c.self.view_is (asked g u))).pinned_is

pub returns-clause-frozen : goal.returns-clause-frozen
returns-clause-frozen g c =
    let a = (goal.at.returns-clause-frozen g c).After-turn-self-inside in
    let u = (goal.at.returns-clause-frozen g c).Start in
    (made g a (ready _ _ _ _ _ _ _ c.self.view_is (asked g u))).frozen_is ∙ ap (λ (b : Assignment). set b.frozen c.args.m true) c.self.view_is

pub returns-clause-bound : goal.returns-clause-bound
returns-clause-bound g c =
    let a = (goal.at.returns-clause-bound g c).After-turn-self-inside in
    let u = (goal.at.returns-clause-bound g c).Start in
    subst (λ (b : Assignment). length (pairs_of c.take_pin.new.kept.slots) ≤ length (pairs b) + 1) c.self.view_is (made g a (ready _ _ _ _ _ _ _ c.self.view_is (asked g u))).bound

pub returns-clause-stands : goal.returns-clause-stands
returns-clause-stands g c = (made g (goal.at.returns-clause-stands g c).After-turn-self-inside (ready _ _ _ _ _ _ _ c.self.view_is (asked g (goal.at.returns-clause-stands g c).Start))).stands

pub returns-clause-whole : goal.returns-clause-whole
returns-clause-whole g c = (made g (goal.at.returns-clause-whole g c).After-turn-self-inside (ready _ _ _ _ _ _ _ c.self.view_is (asked g (goal.at.returns-clause-whole g c).Start))).whole

pub returns-clause-same_room : goal.returns-clause-same_room
returns-clause-same_room g c =
    let ins = c.self.inside in
    let a = (goal.at.returns-clause-same_room g c).After-turn-self-inside in
    subst (λ (x : Assignment). HasRoomOf x (seen c.take_pin.new.kept (set ins.frozen.items c.args.m true) c.turn-self-inside.result)) c.self.view_is (room g a)

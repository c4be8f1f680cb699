use Rattle.std.proofs.Common.{refl, sym, subst}
use Rattle.obs_graph.specs.Positions.{IsForestAt}
use Rattle.obs_matroid.specs.Assignments.{branches}
use Rattle.obs_matroid.specs.inner.Slots.{pairs_of}
use Rattle.obs_forest.specs.inner.Forest.{StandsOver as ForestStandsOver}
use Rattle.obs_assign.specs.Assignment.{Assignment}
use Rattle.obs_assign.specs.inner.Assignment.{HasRoomOf}
use Rattle.obs_assign.specs.inner.Kept.{Kept, seen}
use Rattle.obs_assign.specs.inner.Moves.{ArePath, moved}
use Rattle.obs_assign.proofs.Changes.{IsMoved, IsMoved-made}
use Rattle.obs_assign.proofs.Keeping.{HasArrays-same, path_different, path_low_all, path_some}
use Rattle.obs_assign.proofs.Over.{HasRoomOf-with, IsOver-made}
use Rattle.obs_assign.proofs.assignment.Assignment.augment.Goals as goal
use Rattle.obs_assign.proofs.assignment.Assignment.augment.Given.{Over}
use Rattle.obs_assign.proofs.assignment.Assignment.augment.Goals.{After-turn-self-inside}

pub take_path-requires-clause-over : goal.take_path-requires-clause-over
take_path-requires-clause-over g c =
    IsOver-made c.self.inside.kept c.args.g.now (subst (λ (a : Assignment). ForestStandsOver a.forest c.args.g.now) (sym c.self.view_is) c.requires.stands.forest) c.self.invariant.whole.paired.holds

pub take_path-requires-clause-some : goal.take_path-requires-clause-some
take_path-requires-clause-some g c = path_some c.args.self.now c.args.path.now c.requires.path

pub take_path-requires-clause-low : goal.take_path-requires-clause-low
take_path-requires-clause-low g c =
    let ins = c.self.inside in
    path_low_all (seen ins.kept ins.frozen.items ins.turns) c.args.path.now (subst (λ (a : Assignment). ArePath a c.args.path.now) (sym c.self.view_is) c.requires.path)

pub take_path-requires-clause-different : goal.take_path-requires-clause-different
take_path-requires-clause-different g c = path_different c.args.self.now c.args.path.now c.requires.path

pub take_path-requires-clause-forest : goal.take_path-requires-clause-forest
take_path-requires-clause-forest g c =
    subst (λ (a : Assignment). IsForestAt c.args.g.now.ends (branches (pairs_of (moved c.args.path.now a.slots)))) (sym c.self.view_is) c.requires.assignment.forest

-- the assignment that is seen afterwards
made : (g : Over) (c : After-turn-self-inside g)
    → IsMoved c.args.self.now c.args.path.now c.args.g.now c.args.ms.now.touches (seen c.take_path.new.kept c.self.inside.frozen.items c.turn-self-inside.result)
made g c =
    let ins = c.self.inside in
    let inv = c.self.invariant in
    let turns = c.turn-self-inside.result in
    subst (λ (k : Kept). IsMoved c.args.self.now c.args.path.now c.args.g.now c.args.ms.now.touches (seen k ins.frozen.items turns)) (sym c.take_path.ensures.moved)
    (IsMoved-made c.args.self.now c.args.path.now c.args.g.now c.args.ms.now.touches ins.kept ins.frozen.items ins.turns turns c.self.view_is inv.whole inv.frozen_len c.requires.stands c.requires.path c.requires.assignment)

room : (g : Over) (c : After-turn-self-inside g) → HasRoomOf (seen c.self.inside.kept c.self.inside.frozen.items c.self.inside.turns) (seen c.take_path.new.kept c.self.inside.frozen.items c.turn-self-inside.result)
room g c = let ins = c.self.inside in HasRoomOf-with ins.kept c.take_path.new.kept c.args.g.now _ ins.frozen.items ins.frozen.items ins.turns c.turn-self-inside.result c.take_path.ensures.moved

pub invariant_of-self : goal.invariant_of-self
invariant_of-self g c =
    let a = (goal.at.invariant_of-self g c).After-turn-self-inside in
    HasArrays-same _ _ _ _ _ _ _ _ _ _ c.self.invariant (made g a).whole (room g a) refl refl refl refl

pub returns-clause-moved : goal.returns-clause-moved
returns-clause-moved g c = (made g (goal.at.returns-clause-moved g c).After-turn-self-inside).slots_are

pub returns-clause-frozen : goal.returns-clause-frozen
returns-clause-frozen g c = (made g (goal.at.returns-clause-frozen g c).After-turn-self-inside).frozen_are

pub returns-clause-longer : goal.returns-clause-longer
returns-clause-longer g c = (made g (goal.at.returns-clause-longer g c).After-turn-self-inside).longer

pub returns-clause-stands : goal.returns-clause-stands
returns-clause-stands g c = (made g (goal.at.returns-clause-stands g c).After-turn-self-inside).stands

pub returns-clause-whole : goal.returns-clause-whole
returns-clause-whole g c = (made g (goal.at.returns-clause-whole g c).After-turn-self-inside).whole

pub returns-clause-same_room : goal.returns-clause-same_room
returns-clause-same_room g c =
    let ins = c.self.inside in
    let a = (goal.at.returns-clause-same_room g c).After-turn-self-inside in
    subst (λ (x : Assignment). HasRoomOf x (seen c.take_path.new.kept ins.frozen.items c.turn-self-inside.result)) c.self.view_is (room g a)

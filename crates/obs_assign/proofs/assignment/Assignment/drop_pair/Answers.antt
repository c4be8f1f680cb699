use Rattle.std.proofs.Common.{false, set, refl, sym, subst, length-set}
use Rattle.obs_forest.specs.inner.Forest.{StandsOver as ForestStandsOver}
use Rattle.obs_assign.specs.Assignment.{Assignment}
use Rattle.obs_assign.specs.inner.Assignment.{HasRoomOf}
use Rattle.obs_assign.specs.inner.Kept.{Kept, seen}
use Rattle.obs_assign.proofs.Changes.{IsDropped, IsDropped-made}
use Rattle.obs_assign.proofs.Keeping.{HasArrays-same}
use Rattle.obs_assign.proofs.Over.{HasRoomOf-with, IsOver-made}
use Rattle.obs_assign.proofs.assignment.Assignment.drop_pair.Goals as goal
use Rattle.obs_assign.proofs.assignment.Assignment.drop_pair.Goals.{After-lose}

pub lose-requires-clause-over : goal.lose-requires-clause-over
lose-requires-clause-over c = IsOver-made c.self.inside.kept c.args.g.now (subst (λ (a : Assignment). ForestStandsOver a.forest c.args.g.now) (sym c.self.view_is) c.requires.stands) c.self.invariant.whole.paired.holds

-- the assignment that is seen afterwards
made : (c : After-lose) → IsDropped c.args.self.now c.args.m c.args.g.now (seen c.lose.new.self (set c.self.inside.frozen.items c.args.m false) c.self.inside.turns)
made c =
    let ins = c.self.inside in
    let inv = c.self.invariant in
    subst (λ (k : Kept). IsDropped c.args.self.now c.args.m c.args.g.now (seen k (set ins.frozen.items c.args.m false) ins.turns)) (sym c.lose.ensures.lost)
    (IsDropped-made c.args.self.now c.args.m c.args.g.now ins.kept ins.frozen.items ins.turns c.self.view_is inv.whole inv.frozen_len c.requires.stands c.requires.m)

room : (c : After-lose) → HasRoomOf (seen c.self.inside.kept c.self.inside.frozen.items c.self.inside.turns) (seen c.lose.new.self (set c.self.inside.frozen.items c.args.m false) c.self.inside.turns)
room c = let ins = c.self.inside in HasRoomOf-with ins.kept c.lose.new.self c.args.g.now _ ins.frozen.items (set ins.frozen.items c.args.m false) ins.turns ins.turns c.lose.ensures.lost

pub invariant_of-self : goal.invariant_of-self
invariant_of-self c =
    let a = (goal.at.invariant_of-self c).After-lose in
    HasArrays-same _ _ _ _ _ _ _ _ _ _ c.self.invariant (made a).whole (room a) (length-set c.self.inside.frozen.items c.args.m false) refl refl refl

pub returns-clause-dropped : goal.returns-clause-dropped
returns-clause-dropped c = (made (goal.at.returns-clause-dropped c).After-lose).slots_are

pub returns-clause-thawed : goal.returns-clause-thawed
returns-clause-thawed c = (made (goal.at.returns-clause-thawed c).After-lose).frozen_are

pub returns-clause-forest : goal.returns-clause-forest
returns-clause-forest c = (made (goal.at.returns-clause-forest c).After-lose).forest

pub returns-clause-stands : goal.returns-clause-stands
returns-clause-stands c = (made (goal.at.returns-clause-stands c).After-lose).stands

pub returns-clause-whole : goal.returns-clause-whole
returns-clause-whole c = (made (goal.at.returns-clause-whole c).After-lose).whole

pub returns-clause-same_room : goal.returns-clause-same_room
returns-clause-same_room c =
    let ins = c.self.inside in
    let a = (goal.at.returns-clause-same_room c).After-lose in
    subst (λ (x : Assignment). HasRoomOf x (seen c.lose.new.self (set ins.frozen.items c.args.m false) ins.turns)) c.self.view_is (room a)

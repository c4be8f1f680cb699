use Rattle.std.proofs.Common.{◌≡◌, ◌++◌, List, Option, length, take, drop, false, replicate, refl, ap, sym, ◌∙◌, subst}
use Rattle.std.proofs.lemmas.List.{length-replicate}
use Rattle.obs_graph.specs.declared.Ends.{Ends}
use Rattle.obs_forest.proofs.Lent.{filled_back, lent_back, lent_len}
use Rattle.obs_assign.specs.Assignment.{Assignment}
use Rattle.obs_assign.specs.inner.Assignment.{HasRoomOf}
use Rattle.obs_assign.specs.inner.Kept.{Kept, seen}
use Rattle.obs_assign.proofs.Keeping.{HasArrays-same}
use Rattle.obs_assign.proofs.Over.{HasRoomOf-with}
use Rattle.obs_assign.proofs.Pinned.{IsCarried, IsCarried-made}
use Rattle.obs_assign.proofs.assignment.Assignment.retain_touching.Goals as goal
use Rattle.obs_assign.proofs.assignment.Assignment.retain_touching.Goals.{After-retain}

-- every flag is clear, as the vector has them
flags_back : (c : After-retain) → take c.self.inside.frozen.len (c.clear_flags.new.flags ++ drop (length c.clear_flags.new.flags) c.self.inside.frozen.items) ≡ replicate (length c.self.inside.frozen.items) false
flags_back c = let frozen = c.self.inside.frozen in filled_back false frozen.len c.clear_flags.new.flags frozen.items c.clear_flags.ensures.clear c.deref_mut.ensures.value frozen.ok.0

-- the assignment that is seen afterwards
made : (c : After-retain) → IsCarried c.args.self.now c.args.g.now c.args.ms.now.touches (seen c.retain.new.self (replicate (length c.self.inside.frozen.items) false) c.self.inside.turns)
made c =
    let ins = c.self.inside in
    let inv = c.self.invariant in
    let e = c.retain.ensures in
    let n = length ins.frozen.items in
    subst (λ (k : Kept). IsCarried c.args.self.now c.args.g.now c.args.ms.now.touches (seen k (replicate n false) ins.turns)) (sym e.held)
    (IsCarried-made c.args.self.now c.args.g.now c.args.ms.now.touches ins.kept c.retain.new.self.slots ins.frozen.items n ins.turns c.self.view_is inv.whole inv.frozen_len e.meters c.requires.meters c.requires.positions c.requires.vertices e.retained e.forest)

room : (c : After-retain) → HasRoomOf (seen c.self.inside.kept c.self.inside.frozen.items c.self.inside.turns) (seen c.retain.new.self (replicate (length c.self.inside.frozen.items) false) c.self.inside.turns)
room c = let ins = c.self.inside in HasRoomOf-with ins.kept c.retain.new.self c.args.g.now _ ins.frozen.items (replicate (length ins.frozen.items) false) ins.turns ins.turns c.retain.ensures.held

-- the branches of still pairs, as the vector has them
remaining_back : (c : After-retain) → length (take c.self.inside.remaining.len (c.retain.new.remaining ++ drop (length c.retain.new.remaining) c.self.inside.remaining.items)) ≡ length c.self.inside.remaining.items
remaining_back c =
    let remaining = c.self.inside.remaining in
    let new = c.retain.new.remaining in
    ap (λ (l : List (Option Ends)). length l) (lent_back remaining.len new remaining.items c.retain.auto.remaining c.deref_mut-2.ensures.value remaining.ok.0) ∙ lent_len new c.retain.auto.remaining c.deref_mut-2.ensures.value

pub invariant_of-self : goal.invariant_of-self
invariant_of-self c =
    let a = (goal.at.invariant_of-self c).After-retain in
    rw (flags_back a) (HasArrays-same _ _ _ _ _ _ _ _ _ _ c.self.invariant (made a).whole (room a) (length-replicate (length c.self.inside.frozen.items) false) refl (remaining_back a) c.retain.ensures.room)

pub returns-clause-retained : goal.returns-clause-retained
returns-clause-retained c = (made (goal.at.returns-clause-retained c).After-retain).retained

pub returns-clause-thawed : goal.returns-clause-thawed
returns-clause-thawed c = let a = (goal.at.returns-clause-thawed c).After-retain in rw (flags_back a) (made a).thawed

pub returns-clause-stands : goal.returns-clause-stands
returns-clause-stands c = let a = (goal.at.returns-clause-stands c).After-retain in rw (flags_back a) (made a).stands

pub returns-clause-whole : goal.returns-clause-whole
returns-clause-whole c = let a = (goal.at.returns-clause-whole c).After-retain in rw (flags_back a) (made a).whole

pub returns-clause-same_room : goal.returns-clause-same_room
returns-clause-same_room c =
    let ins = c.self.inside in
    let a = (goal.at.returns-clause-same_room c).After-retain in
    rw (flags_back a) (subst (λ (x : Assignment). HasRoomOf x (seen c.retain.new.self (replicate (length ins.frozen.items) false) ins.turns)) c.self.view_is (room a))

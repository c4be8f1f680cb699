use Rattle.std.proofs.Common.{◌≡◌, ◌++◌, ℕ, length, take, drop, replicate, false, refl, ap, sym, ◌∙◌, subst, arith}
use Rattle.std.specs.Prelude.{None}
use Rattle.std.proofs.lemmas.List.{length-replicate}
use Rattle.obs_forest.proofs.Lent.{filled_back}
use Rattle.obs_assign.specs.Assignment.{Assignment}
use Rattle.obs_assign.specs.inner.Assignment.{HasRoomOf}
use Rattle.obs_assign.specs.inner.Kept.{Kept, seen, with_slots}
use Rattle.obs_assign.proofs.Changes.{IsCleared, IsCleared-made}
use Rattle.obs_assign.proofs.Keeping.{HasArrays-same}
use Rattle.obs_assign.proofs.Over.{HasRoomOf-with}
use Rattle.obs_assign.proofs.assignment.Assignment.clear.Goals as goal
use Rattle.obs_assign.proofs.assignment.Assignment.clear.Goals.{After-clear}

pub clear-requires-clause-meters : goal.clear-requires-clause-meters
clear-requires-clause-meters c = omega (arith, c.requires.room.meters, ap (λ (a : Assignment). a.most_meters) c.self.view_is, c.count.ensures.count)

pub clear-requires-clause-vertices : goal.clear-requires-clause-vertices
clear-requires-clause-vertices c = omega (arith, c.requires.room.vertices, ap (λ (a : Assignment). a.forest.most_vertices) c.self.view_is)

pub clear-requires-clause-branches : goal.clear-requires-clause-branches
clear-requires-clause-branches c = omega (arith, c.requires.room.branches, ap (λ (a : Assignment). a.forest.most_branches) c.self.view_is)

-- every flag is clear, as the vector has them
flags_back : (c : After-clear) → take c.self.inside.frozen.len (c.clear_flags.new.flags ++ drop (length c.clear_flags.new.flags) c.self.inside.frozen.items) ≡ replicate (length c.self.inside.frozen.items) false
flags_back c = let frozen = c.self.inside.frozen in filled_back false frozen.len c.clear_flags.new.flags frozen.items c.clear_flags.ensures.clear c.deref_mut.ensures.value frozen.ok.0

-- the assignment that is seen afterwards
made : (c : After-clear) → IsCleared c.args.g.now c.args.ms.now.touches (seen c.clear.new.self (replicate (length c.self.inside.frozen.items) false) c.self.inside.turns)
made c =
    let ins = c.self.inside in
    let g = c.args.g.now in
    let touches = c.args.ms.now.touches in
    let n = length ins.frozen.items in
    let is : c.clear.new.self ≡ with_slots ins.kept g (replicate (length touches) None) = c.clear.ensures.cleared ∙ ap (λ (k : ℕ). with_slots ins.kept g (replicate k None)) c.count.ensures.count in
    subst (λ (k : Kept). IsCleared g touches (seen k (replicate n false) ins.turns)) (sym is)
    (IsCleared-made g touches ins.kept n ins.turns (omega (arith, c.requires.room.meters, ap (λ (a : Assignment). a.most_meters) c.self.view_is)) c.self.invariant.frozen_len
    (omega (arith, c.requires.room.vertices, ap (λ (a : Assignment). a.forest.most_vertices) c.self.view_is))
    (omega (arith, c.requires.room.branches, ap (λ (a : Assignment). a.forest.most_branches) c.self.view_is)))

room : (c : After-clear) → HasRoomOf (seen c.self.inside.kept c.self.inside.frozen.items c.self.inside.turns) (seen c.clear.new.self (replicate (length c.self.inside.frozen.items) false) c.self.inside.turns)
room c = let ins = c.self.inside in HasRoomOf-with ins.kept c.clear.new.self c.args.g.now _ ins.frozen.items (replicate (length ins.frozen.items) false) ins.turns ins.turns c.clear.ensures.cleared

pub invariant_of-self : goal.invariant_of-self
invariant_of-self c =
    let a = (goal.at.invariant_of-self c).After-clear in
    rw (flags_back a) (HasArrays-same _ _ _ _ _ _ _ _ _ _ c.self.invariant (made a).whole (room a) (length-replicate (length c.self.inside.frozen.items) false) refl refl refl)

pub returns-clause-no_pair : goal.returns-clause-no_pair
returns-clause-no_pair c = (made (goal.at.returns-clause-no_pair c).After-clear).no_pair

pub returns-clause-stands : goal.returns-clause-stands
returns-clause-stands c = let a = (goal.at.returns-clause-stands c).After-clear in rw (flags_back a) (made a).stands

pub returns-clause-whole : goal.returns-clause-whole
returns-clause-whole c = let a = (goal.at.returns-clause-whole c).After-clear in rw (flags_back a) (made a).whole

pub returns-clause-same_room : goal.returns-clause-same_room
returns-clause-same_room c =
    let ins = c.self.inside in
    let a = (goal.at.returns-clause-same_room c).After-clear in
    rw (flags_back a) (subst (λ (x : Assignment). HasRoomOf x (seen c.clear.new.self (replicate (length ins.frozen.items) false) ins.turns)) c.self.view_is (room a))

use Rattle.std.proofs.Common.{◌≡◌, None, Some, get_or, take, length, sym, ap, ◌∙◌, subst, arith}
use Rattle.std.proofs.lemmas.List.{get_or_default}
use Rattle.obs_graph.specs.Positions.{present}
use Rattle.obs_graph.proofs.IsJoined.{true-from_same}
use Rattle.obs_graph.proofs.Present.{present_low}
use Rattle.obs_matroid.specs.Assignments.{branches}
use Rattle.obs_matroid.specs.inner.Slots.{pairs_of}
use Rattle.obs_forest.specs.Forest.{Forest}
use Rattle.obs_forest.specs.inner.Forest.{StandsOver}
use Rattle.obs_assign.specs.inner.Assignment.{ArePaired}
use Rattle.obs_assign.proofs.Paths.{apart-pairs, apart_ends, apart_spare, cycle_at, ends_are, owned_low, owner_frozen, owner_spare, path_low, path_owned, spare_found}
use Rattle.obs_assign.proofs.spare.spare_for.Goals as goal
use Rattle.obs_assign.proofs.spare.spare_for.Goals.{After-unwrap-ends}

pub bounds-frozen-x : goal.bounds-frozen-x
bounds-frozen-x c = let l = owned_low c.args.kept.now.slots c.owners-owners.result.now c.owners-owners.ensures.inverse c.args.e c.in-Some.x c.in-Some.is in omega (arith, l, c.requires.paired.flags)

pub returns-then-frozen-x : goal.returns-then-frozen-x
returns-then-frozen-x c =
    let r = c.requires in
    record { spare = owner_frozen c.args.g.now.ends c.args.kept.now.slots c.args.frozen.now c.args.kept.now.forest.held c.args.m c.args.e r.stands.held r.paired r.thawed c.in-Some.x ((c.owners-owners.ensures.inverse c.in-Some.x c.args.e).1 c.in-Some.is) c.if-frozen-x.true }

pub returns-in-Some : goal.returns-in-Some
returns-in-Some c =
    let r = c.requires in
    record { spare = owner_spare c.args.g.now.ends c.args.kept.now.slots c.args.frozen.now c.args.kept.now.forest.held c.args.m c.args.e r.stands.held r.paired r.thawed c.args.g.now.vertices c.vertices.ensures.branches c.in-Some.x ((c.owners-owners.ensures.inverse c.in-Some.x c.args.e).1 c.in-Some.is) c.if-frozen-x.false }

-- the ends of the branch
there : (c : After-unwrap-ends) → get_or c.args.g.now.ends c.args.e None ≡ Some c.unwrap-ends.result
there c = get_or_default c.args.g.now.ends c.args.e None c.ends.result (present_low c.args.g.now.ends c.args.e c.requires.present) ∙ (sym c.ends.ensures.ends ∙ c.unwrap-ends.ensures)

-- the forest is that of the kept pairs
stands : (c : After-unwrap-ends) → StandsOver c.forest-forest.result.now c.args.g.now
stands c = subst (λ (f : Forest). StandsOver f c.args.g.now) (sym c.forest-forest.ensures.forest) c.requires.stands

paired : (c : After-unwrap-ends) → ArePaired c.args.kept.now.slots c.args.frozen.now c.forest-forest.result.now.held
paired c = subst (λ (f : Forest). ArePaired c.args.kept.now.slots c.args.frozen.now f.held) (sym c.forest-forest.ensures.forest) c.requires.paired

pub returns-then-piece : goal.returns-then-piece
returns-then-piece c =
    let r = c.requires in
    let ends = c.args.g.now.ends in
    let slots = c.args.kept.now.slots in
    let held = c.forest-forest.result.now.held in
    let u = c.unwrap-ends.result in
    let w = (goal.at.returns-then-piece c).After-unwrap-ends in
    let apart = apart-pairs ends slots held (stands w).held (paired w).holds u.a u.b (λ s. c.if-piece.true (c.piece.ensures.first ∙ (s ∙ sym c.piece-2.ensures.first))) in
    record {
      spare = apart_spare ends slots c.args.frozen.now held c.args.m c.args.e (stands w).held (paired w) r.thawed
          (apart_ends ends (branches (pairs_of slots)) c.args.e u (there w) apart) r.m;
    }

pub spare_of-requires-clause-low : goal.spare_of-requires-clause-low
spare_of-requires-clause-low c = λ k d l.
    let u = c.unwrap-ends.result in
    let w = (goal.at.spare_of-requires-clause-low c).After-unwrap-ends in
    let path = take c.cycle-count.result c.cycle-count.new.out in
    let held = c.forest-forest.result.now.held in
    let low = path_low c.args.kept.now.slots c.owners-owners.result.now held u path (cycle_at c.args.g.now.ends held c.args.e u path (there w) c.cycle-count.ensures.cycle) k d l in
    omega (arith, low, ap (λ (f : Forest). length f.held) c.forest-forest.ensures.forest, c.owners-owners.ensures.room)

pub spare_of-requires-clause-owned : goal.spare_of-requires-clause-owned
spare_of-requires-clause-owned c =
    let u = c.unwrap-ends.result in
    let w = (goal.at.spare_of-requires-clause-owned c).After-unwrap-ends in
    let path = take c.cycle-count.result c.cycle-count.new.out in
    let held = c.forest-forest.result.now.held in
    path_owned c.args.kept.now.slots c.owners-owners.result.now held u path (cycle_at c.args.g.now.ends held c.args.e u path (there w) c.cycle-count.ensures.cycle) (paired w).holds c.owners-owners.ensures.inverse

pub spare_of-requires-clause-meters : goal.spare_of-requires-clause-meters
spare_of-requires-clause-meters c = λ p x h. let l = owned_low c.args.kept.now.slots c.owners-owners.result.now c.owners-owners.ensures.inverse p x h in omega (arith, l, c.requires.paired.flags)

pub returns : goal.returns
returns c =
    let r = c.requires in
    let ends = c.args.g.now.ends in
    let u = c.unwrap-ends.result in
    let w = (goal.at.returns c).After-unwrap-ends in
    let path = take c.cycle-count.result c.cycle-count.new.out in
    let held = c.forest-forest.result.now.held in
    record {
      spare = spare_found ends c.args.kept.now.slots c.args.frozen.now held c.args.m c.args.e (stands w).held (paired w) r.thawed u (ends_are ends c.args.e u (there w)) path
          (cycle_at ends held c.args.e u path (there w) c.cycle-count.ensures.cycle) c.owners-owners.result.now c.owners-owners.ensures.inverse c.spare_of.result c.spare_of.ensures.spare;
    }

pub cycle-count-requires-clause-stands : goal.cycle-count-requires-clause-stands
cycle-count-requires-clause-stands c = stands (goal.at.cycle-count-requires-clause-stands c).After-unwrap-ends

pub cycle-count-requires-clause-joined : goal.cycle-count-requires-clause-joined
cycle-count-requires-clause-joined c =
    let u = c.unwrap-ends.result in
    rw (there (goal.at.cycle-count-requires-clause-joined c).After-unwrap-ends)
    (true-from_same (present c.forest-forest.result.now.held) u.a u.b (sym c.piece.ensures.first ∙ (c.if-piece.false ∙ c.piece-2.ensures.first)))

pub cycle-count-requires-clause-room : goal.cycle-count-requires-clause-room
cycle-count-requires-clause-room c = omega (arith, ap (λ (f : Forest). f.vertices) c.forest-forest.ensures.forest, c.requires.room)

use Rattle.std.proofs.Common.{◌∙◌, ◌≤◌, sym, subst, ap, length, arith}
use Rattle.obs_switch.specs.Held.{Buses}
use Rattle.obs_network.specs.Network.{Network}
use Rattle.obs_network.proofs.LoneChange.{branch_edited, live_in_range}
use Rattle.obs_network.proofs.OfCase.{few_branches}
use Rattle.obs_network.proofs.network.Network.is_alone.Goals as goal

pub changes_alone-requires-clause-rows : goal.changes_alone-requires-clause-rows
changes_alone-requires-clause-rows c =
    let left = branch_edited c.args.self.now c.args.at c.args.case.now c.requires.before in
    omega (arith, ap (λ l. length l) c.branches.ensures.rows, left.positions, ap (λ (n : Network). length n.graph.ends) c.self.view_is)

pub changes_alone-requires-clause-ends : goal.changes_alone-requires-clause-ends
changes_alone-requires-clause-ends c =
    let left = branch_edited c.args.self.now c.args.at c.args.case.now c.requires.before in
    let buses = ap (λ (n : Network). n.buses) c.self.view_is ∙ left.buses in
    live_in_range c.args.case.now c.branches.ensures.valid c.args.at (length c.self.inside.components.of_buses) c.requires.branch (c.self.invariant.of_buses ∙ ap (λ (b : Buses). b.count) buses)
    c.live_ends_at-ends.result c.live_ends_at-ends.ensures.ends

pub changes_alone-requires-clause-room : goal.changes_alone-requires-clause-room
changes_alone-requires-clause-room c =
    let left = branch_edited c.args.self.now c.args.at c.args.case.now c.requires.before in
    let room = subst (λ (n : Network). n.graph.vertices ≤ n.graph.most_vertices) (sym c.self.view_is) left.room in
    omega (arith, room, c.self.invariant.vertices_room, c.self.invariant.sides_room)

pub overflow_cast-rows : goal.overflow_cast-rows
overflow_cast-rows c = omega (arith, ap (λ l. length l) c.branches.ensures.rows, few_branches c.args.case.now c.branches.ensures.valid)

pub invariant_of-self : goal.invariant_of-self
invariant_of-self c =
    let v = c.self.invariant in
    record {
      buses_room = v.buses_room;
      vertices_room = v.vertices_room;
      branches_room = v.branches_room;
      kept_len = v.kept_len;
      kept_ends = v.kept_ends;
      touches_len = v.touches_len;
      fewer = v.fewer;
      search_room = v.search_room;
      sides_room = c.changes_alone.ensures.room ∙ v.sides_room;
      vertices = v.vertices;
      of_buses = v.of_buses;
      meters_in_range = v.meters_in_range;
      offered_in_range = v.offered_in_range;
      listed_meters = v.listed_meters;
      listed_components = v.listed_components;
      listed_count = v.listed_count;
      lists = v.lists;
    }

pub returns-clause-same : goal.returns-clause-same
returns-clause-same c = c.self.view_is

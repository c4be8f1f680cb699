use Rattle.std.proofs.Common.{◌≡◌, ℕ, ◌+◌, ◌∙◌, ◌<◌, Option, Some, None, length, sym, ap, subst, take, arith}
use Rattle.std.specs.Prelude.{◌≢◌, IfSome}
use Rattle.obs_graph.specs.declared.Ends.{Ends}
use Rattle.obs_graph.specs.Graph.{Graph}
use Rattle.obs_graph.proofs.Stored.{written_back}
use Rattle.obs_meter.specs.Held.{Meters}
use Rattle.obs_network.specs.contracts.network.Network.{the_view}
use Rattle.obs_network.specs.Network.{Components, Network, Rows}
use Rattle.obs_network.specs.inner.Edited.{AreSameBut}
use Rattle.std.proofs.lemmas.List.{length-map}
use Rattle.obs_network.specs.inner.Following.{followed}
use Rattle.obs_network.proofs.FollowedCase.{IsFollowed, follows, listed_far}
use Rattle.obs_network.proofs.Items.{meters-in_range, offered-in_range}
use Rattle.obs_network.specs.Switched.{case_bus_count}
use Rattle.obs_network.proofs.LoneChange.{branch_edited, live_is_branch, lone}
use Rattle.obs_network.proofs.OfCase.{case_bus_count-le, case_component_count-le, few_branches, length-case_first_buses, length-case_meters, more_vertices}
use Rattle.obs_network.proofs.Whole.{items_are, network_is, rows_are, shape_is}
use Rattle.obs_network.proofs.RefreshedMeter.{length-lists_of}
use Rattle.obs_network.proofs.network.Network.change_branch.Goals as goal
use Rattle.obs_network.proofs.network.Network.change_branch.Goals.{After-follow_items}

pub ends-before-requires : goal.ends-before-requires
ends-before-requires c =
    let alone = lone c.args.self.now c.args.at c.args.case.now c.branches.ensures.valid c.requires.branch c.requires.before c.requires.alone in
    record { e = subst (λ (n : Network). c.args.at < length n.graph.ends) (sym c.self.view_is) alone.low }

pub change_row-requires-clause-row : goal.change_row-requires-clause-row
change_row-requires-clause-row c =
    let alone = lone c.args.self.now c.args.at c.args.case.now c.branches.ensures.valid c.requires.branch c.requires.before c.requires.alone in
    omega (arith, alone.low, ap (λ (n : Network). length n.graph.ends) c.self.view_is)

pub change_row-requires-clause-ends : goal.change_row-requires-clause-ends
change_row-requires-clause-ends c =
    let t = c.args.case.now in
    let n = c.args.self.now in
    let alone = lone n c.args.at t c.branches.ensures.valid c.requires.branch c.requires.before c.requires.alone in
    let vertices = ap (λ (x : Network). x.graph.vertices) c.self.view_is ∙ sym alone.same.vertices in
    more_vertices (case_bus_count t) c.self.inside.graph.vertices c.live_ends_at-after.result (omega (arith, vertices))
    (live_is_branch t c.branches.ensures.valid c.args.at c.requires.branch c.live_ends_at-after.result c.live_ends_at-after.ensures.ends)

-- the graph with the branch changed, and the items that follow
of_row : (c : goal.After-follow_items-arg-5-1) → IsFollowed (the_view c.self.inside) (record { at = c.args.at; before = c.ends-before.result; after = c.live_ends_at-after.result }) c.args.case.now (length c.branches.result.now) c.change_row.new.graph
of_row c =
    follows (the_view c.self.inside) c.args.self.now (record { at = c.args.at; before = c.ends-before.result; after = c.live_ends_at-after.result }) c.args.case.now c.branches.ensures.valid c.requires.branch c.requires.before c.requires.alone c.self.view_is
    c.ends-before.ensures.ends c.live_ends_at-after.ensures.ends (length c.branches.result.now) (ap (λ l. length l) c.branches.ensures.rows) c.change_row.new.graph c.change_row.ensures.graph

of_items : (c : After-follow_items) → IsFollowed (the_view c.self.inside) (record { at = c.args.at; before = c.ends-before.result; after = c.live_ends_at-after.result }) c.args.case.now (length c.branches.result.now) c.change_row.new.graph
of_items c =
    follows (the_view c.self.inside) c.args.self.now (record { at = c.args.at; before = c.ends-before.result; after = c.live_ends_at-after.result }) c.args.case.now c.branches.ensures.valid c.requires.branch c.requires.before c.requires.alone c.self.view_is
    c.ends-before.ensures.ends c.live_ends_at-after.ensures.ends (length c.branches.result.now) (ap (λ l. length l) c.branches.ensures.rows) c.change_row.new.graph c.change_row.ensures.graph

pub follow_items-requires-clause-most_meters : goal.follow_items-requires-clause-most_meters
follow_items-requires-clause-most_meters c =
    let s = c.self.inside in
    let left = branch_edited c.args.self.now c.args.at c.args.case.now c.requires.before in
    let meters = ap (λ (n : Network). n.rows.meters) c.self.view_is ∙ ap (λ (r : Rows). r.meters) left.rows in
    let follow = followed (take (length c.branches.result.now) c.change_row.new.graph.ends) c.ends-before.result c.live_ends_at-after.result in
    omega (arith, meters, c.self.invariant.listed_meters, length-map s.meters.touches follow, ap length (of_row c).meters, length-case_meters c.args.case.now)

pub follow_items-requires-clause-most_components : goal.follow_items-requires-clause-most_components
follow_items-requires-clause-most_components c =
    let t = c.args.case.now in
    let left = branch_edited c.args.self.now c.args.at t c.requires.before in
    let alone = lone c.args.self.now c.args.at t c.branches.ensures.valid c.requires.branch c.requires.before c.requires.alone in
    let nodes = ap (λ (n : Network). n.rows.nodes) c.self.view_is ∙ ap (λ (r : Rows). r.nodes) left.rows in
    let firsts = ap (λ (n : Network). length n.components.first_buses) c.self.view_is ∙ ap (λ (x : Components). length x.first_buses) (sym alone.same.components) in
    omega (arith, nodes, firsts, c.self.invariant.listed_components, length-case_first_buses t, case_component_count-le t, case_bus_count-le t)

pub invariant_of-self : goal.invariant_of-self
invariant_of-self c =
    let t = c.args.case.now in
    let valid = c.branches.ensures.valid in
    let s = c.self.inside in
    let v = c.self.invariant in
    let of = of_items c in
    let row = c.change_row.ensures in
    let items = c.follow_items.ensures in
    let most_meters = ap (λ (x : Meters). x.most) items.meters in
    let most_offered = ap (λ (x : Meters). x.most) items.offered in
    let most_branches = ap (λ (g : Graph). g.most_branches) row.graph in
    let keeps = c.change_row.auto.kept in
    rw (written_back s.kept.len c.change_row.new.kept s.kept.items (c.change_row.auto.kept ∙ ap length c.deref_mut.ensures.value) s.kept.ok.0)
    record {
      buses_room = v.buses_room;
      vertices_room = ap (λ (g : Graph). g.most_vertices) row.graph ∙ v.vertices_room;
      branches_room = omega (arith, v.branches_room, most_branches, most_offered);
      kept_len = omega (arith, v.kept_len, keeps, most_offered);
      kept_ends = row.kept;
      touches_len = omega (arith, v.touches_len, most_offered);
      fewer = omega (arith, v.fewer, most_meters, most_offered);
      search_room = v.search_room;
      sides_room = v.sides_room;
      vertices = ap (λ (g : Graph). g.vertices) row.graph ∙ v.vertices;
      of_buses = v.of_buses;
      meters_in_range = rw (ap (λ (x : Meters). x.touches) items.meters ∙ of.meters) (meters-in_range t valid c.change_row.new.graph of.vertices of.ends);
      offered_in_range = rw (ap (λ (x : Meters). x.touches) items.offered ∙ of.offered) (offered-in_range t valid c.change_row.new.graph of.vertices of.ends);
      listed_meters = omega (arith, v.listed_meters, items.as_many.most_meters, most_meters);
      listed_components = omega (arith, v.listed_components, items.as_many.most_components);
      listed_count = items.as_many.components ∙ v.listed_count;
      lists = items.lists;
    }

-- the network is that of the case
whole : goal.returns-clause-whole
whole c =
    let t = c.args.case.now in
    let n = c.args.self.now in
    let v = c.self.invariant in
    let is = c.self.view_is in
    let left = branch_edited n c.args.at t c.requires.before in
    let alone = lone n c.args.at t c.branches.ensures.valid c.requires.branch c.requires.before c.requires.alone in
    let of = of_items c in
    let items_most = ap (λ (x : Meters). x.most) c.follow_items.ensures.meters in
    let offered_most = ap (λ (x : Meters). x.most) c.follow_items.ensures.offered in
    let rows = ap (λ (x : Network). x.rows) is ∙ left.rows in
    let nodes = ap (λ (r : Rows). r.nodes) rows in
    let branches = ap (λ (r : Rows). r.branches) rows in
    let meters = ap (λ (r : Rows). r.meters) rows in
    let candidates = ap (λ (r : Rows). r.candidates) rows in
    let most_vertices = ap (λ (g : Graph). g.most_vertices) c.change_row.ensures.graph in
    let most_branches = ap (λ (g : Graph). g.most_branches) c.change_row.ensures.graph in
    network_is _ _
    (rows_are _ _ nodes (ap (λ (r : Rows). r.switches) rows) branches (items_most ∙ meters) (omega (arith, items_most, offered_most, candidates)))
    (ap (λ (x : Network). x.buses) is ∙ left.buses)
    (ap (λ (x : Network). x.components) is ∙ sym alone.same.components)
    (shape_is _ _ of.vertices of.ends (omega (arith, most_vertices, v.vertices_room, nodes)) (omega (arith, most_branches, v.branches_room, branches, v.fewer, meters, candidates)))
    (items_are _ _ (ap (λ (x : Meters). x.touches) c.follow_items.ensures.meters ∙ of.meters) (items_most ∙ meters))
    (items_are _ _ (ap (λ (x : Meters). x.touches) c.follow_items.ensures.offered ∙ of.offered) (offered_most ∙ omega (arith, v.fewer, meters, candidates)))
    (ap (λ (x : Network). x.needed) is ∙ sym alone.same.needed)

pub returns-clause-whole : goal.returns-clause-whole
returns-clause-whole c = whole c

pub returns-clause-alone : goal.returns-clause-alone
returns-clause-alone c =
    let alone = lone c.args.self.now c.args.at c.args.case.now c.branches.ensures.valid c.requires.branch c.requires.before c.requires.alone in
    subst (λ (x : Network). AreSameBut c.args.at c.args.self.now x) (sym (whole c)) alone.same

pub overflow_cast-rows : goal.overflow_cast-rows
overflow_cast-rows c = omega (arith, ap (λ l. length l) c.branches.ensures.rows, few_branches c.args.case.now c.branches.ensures.valid)

pub change_row-requires-clause-kept : goal.change_row-requires-clause-kept
change_row-requires-clause-kept c = ap (take (length c.self.inside.graph.ends)) c.deref_mut.ensures.value ∙ c.self.invariant.kept_ends

-- the ends that the row had are vertices still
still_low : (o : Option Ends) (n k : ℕ) → k ≡ n → IfSome o (λ x. (x.a < n) × (x.b < n) × (x.a ≢ x.b)) → IfSome o (λ x. (x.a < k) × (x.b < k))
still_low None n k is h = tt
still_low (Some x) n k is h = rw is (h.0, h.1)

pub follow_items-requires-clause-can : goal.follow_items-requires-clause-can
follow_items-requires-clause-can c =
    let s = c.self.inside in
    let v = c.self.invariant in
    let g = c.change_row.new.graph in
    let of = of_row c in
    let vertices = ap (λ (x : Graph). x.vertices) c.change_row.ensures.graph in
    record {
      vertices = vertices ∙ (v.vertices ∙ ap (λ n. n + length s.components.first_buses) (sym v.of_buses));
      row = record { low = of.few; before = still_low c.ends-before.result s.graph.vertices g.vertices vertices c.ends-before.ensures.in_range; after = of.after_low };
      in_range = of.in_range;
      first = of.first;
      count = v.listed_count;
      one_each = ap length v.lists ∙ length-lists_of s.components s.graph s.meters;
      far = listed_far s.components s.graph g s.meters (take (length c.branches.result.now) g.ends) (record { at = c.args.at; before = c.ends-before.result; after = c.live_ends_at-after.result }) s.live_meters.lists of.was
          (ap (λ (x : Graph). x.ends) c.change_row.ensures.graph) v.lists;
    }

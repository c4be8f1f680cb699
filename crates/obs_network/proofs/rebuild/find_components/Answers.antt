use Rattle.std.proofs.Common.{◌≡◌, ◌∙◌, ℕ, refl, ap, length, take, arith}
use Rattle.std.proofs.lemmas.List.{length-take-le}
use Rattle.obs_graph.specs.Graph.{Graph}
use Rattle.obs_network.specs.Switched.{case_bus_count}
use Rattle.obs_network.specs.Network.{case_absolute, case_component_count, case_components, case_energised, case_first_buses, case_sizes}
use Rattle.obs_network.proofs.OfCase.{case_live-branches, length-case_buses}
use Rattle.obs_network.proofs.rebuild.find_components.Goals as goal

pub refill-requires-clause-branches : goal.refill-requires-clause-branches
refill-requires-clause-branches c =
    rw (c.requires.live, c.count-count.ensures.count, c.requires.buses.count) (case_live-branches c.args.case.now c.nodes-nodes.ensures.valid)

pub reach_all-requires-clause-graph : goal.reach_all-requires-clause-graph
reach_all-requires-clause-graph c =
    rw (c.refill.ensures.whole, c.requires.live, c.count-count.ensures.count, c.requires.buses.count) (case_live-branches c.args.case.now c.nodes-nodes.ensures.valid)

pub refill-requires-2-clause-nodes_are : goal.refill-requires-2-clause-nodes_are
refill-requires-2-clause-nodes_are c = rw (c.nodes-nodes.ensures.rows, c.requires.buses.buses, length-case_buses c.args.case.now) refl

-- there are as many first buses as buses
firsts : (c : goal.After-refill-2) → length (take c.count-count.result c.pieces.result.now) ≡ case_bus_count c.args.case.now
firsts c =
    let room = c.requires.search_room in
    let same = c.reach_all.ensures.room in
    length-take-le c.count-count.result c.pieces.result.now (omega (arith, ap length c.pieces.ensures.pieces)) ∙ (c.count-count.ensures.count ∙ c.requires.buses.count)

pub returns-clause-components : goal.returns-clause-components
unfolding case_absolute case_component_count case_components case_energised case_first_buses case_sizes
returns-clause-components c =
    let r = c.refill-2.ensures in
    let live = c.requires.live in
    let nodes = c.nodes-nodes.ensures.rows in
    let buses = c.requires.buses.buses in
    let first = firsts c in
    record {
      of_buses = r.of_buses ∙ rw (first, live) refl;
      first_buses = r.first_buses ∙ rw (first, live) refl;
      sizes = r.sizes ∙ rw (r.of_buses, first, live) refl;
      energised = r.energised ∙ rw (r.of_buses, nodes, buses, first, live) refl;
      absolute = r.absolute ∙ rw (r.of_buses, nodes, buses, first, live) refl;
    }

pub returns-clause-graph : goal.returns-clause-graph
returns-clause-graph c =
    let g = c.args.graph.now in
    c.refill.ensures.whole
    ∙ ap (λ (n : ℕ). let x : Graph = record { vertices = n; ends = c.args.live.now; most_vertices = g.most_vertices; most_branches = g.most_branches } in x) (c.count-count.ensures.count ∙ c.requires.buses.count)

use Rattle.std.proofs.Common.{◌≡◌, ℕ, List, ◌+◌, take, sym, ap, ◌∙◌, length, arith}
use Rattle.std.proofs.lemmas.List.{length-take-le}
use Rattle.obs_case.specs.Tables.{Tables}
use Rattle.obs_graph.specs.Graph.{Graph}
use Rattle.obs_network.specs.Switched.{case_bus_count}
use Rattle.obs_network.specs.Network.{case_first_buses, case_vertex_count}
use Rattle.obs_network.proofs.OfCase.{case_branches-are, case_bus_count-le, case_component_count-le, few_nodes, length-case_first_buses}
use Rattle.obs_network.proofs.rebuild.refill_graph.Goals as goal

-- so many vertices
vertices : (t : Tables) (buses components count : ℕ) (firsts : List ℕ) → buses ≡ count → components ≡ length firsts → count ≡ case_bus_count t → firsts ≡ case_first_buses t → buses + components ≡ case_vertex_count t
vertices t buses components count firsts a b e f = omega (arith, a, b, e, ap (λ l. length l) f, length-case_first_buses t)

pub overflow_add-vertices : goal.overflow_add-vertices
overflow_add-vertices c =
    let t = c.args.case.now in
    let all = vertices t c.count.result c.count-2.result _ _ c.count.ensures.count c.count-2.ensures.count c.requires.found.buses.count c.requires.found.components.first_buses in
    omega (arith, all, case_bus_count-le t, case_component_count-le t, few_nodes t c.write_branches-written.ensures.valid)

pub fill_graph-requires-clause-vertices : goal.fill_graph-requires-clause-vertices
fill_graph-requires-clause-vertices c =
    let all = vertices c.args.case.now c.count.result c.count-2.result _ _ c.count.ensures.count c.count-2.ensures.count c.requires.found.buses.count c.requires.found.components.first_buses in
    omega (arith, all, c.requires.vertices)

pub fill_graph-requires-clause-branches : goal.fill_graph-requires-clause-branches
fill_graph-requires-clause-branches c =
    let all = vertices c.args.case.now c.count.result c.count-2.result _ _ c.count.ensures.count c.count-2.ensures.count c.requires.found.buses.count c.requires.found.components.first_buses in
    rw (all, c.write_branches-written.ensures.branches) (case_branches-are c.args.case.now c.write_branches-written.ensures.valid)

pub returns-clause-graph : goal.returns-clause-graph
returns-clause-graph c = let whole = c.fill_graph.ensures.whole in record {
  vertices = ap (λ (g : Graph). g.vertices) whole
      ∙ vertices c.args.case.now c.count.result c.count-2.result _ _ c.count.ensures.count c.count-2.ensures.count c.requires.found.buses.count c.requires.found.components.first_buses;
  ends = ap (λ (g : Graph). g.ends) whole ∙ c.write_branches-written.ensures.branches;
}

pub returns-clause-room : goal.returns-clause-room
returns-clause-room c = let whole = c.fill_graph.ensures.whole in
    record { most_vertices = ap (λ (g : Graph). g.most_vertices) whole; most_branches = ap (λ (g : Graph). g.most_branches) whole }

pub returns-clause-kept_ends : goal.returns-clause-kept_ends
returns-clause-kept_ends c =
    let kept = c.write_branches-written.new.kept in
    rw (ap (λ (g : Graph). g.ends) c.fill_graph.ensures.whole) (ap (λ n. take n kept) (length-take-le c.write_branches-written.result.positions kept c.write_branches-written.ensures.few))

pub fill_graph-requires-clause-has_them : goal.fill_graph-requires-clause-has_them
fill_graph-requires-clause-has_them c = λ yes. c.requires.before.ends ∙ c.write_branches-written.ensures.whole yes ∙ sym c.write_branches-written.ensures.branches

pub fill_graph-requires-clause-more : goal.fill_graph-requires-clause-more
fill_graph-requires-clause-more c = λ yes. omega (arith, c.requires.before.vertices, c.count.ensures.count, c.requires.found.buses.count)

pub write_branches-written-requires : goal.write_branches-written-requires
write_branches-written-requires c = let r = c.requires in record { found = r.found; live = r.live; kept = r.kept }

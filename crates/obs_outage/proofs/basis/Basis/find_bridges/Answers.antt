use Rattle.std.proofs.Common.{◌≡◌, ℕ, Option, List, length, take, refl, ap, ◌∙◌, subst, arith}
use Rattle.obs_graph.specs.declared.Ends.{Ends}
use Rattle.obs_graph.specs.Graph.{Graph}
use Rattle.obs_case.specs.declared.rows.Branch.{Branch}
use Rattle.obs_network.specs.inner.Bridges.{AreBridges}
use Rattle.obs_network.specs.Network.{Network, case_branches, case_rows}
use Rattle.obs_network.proofs.OfCase.{case_vertex_count-le, few_branches, length-case_branches}
use Rattle.obs_outage.specs.inner.Feeds.{HasFeedRoom}
use Rattle.obs_outage.proofs.Joined.{rows_first}
use Rattle.obs_outage.proofs.basis.Basis.find_bridges.Goals as goal

pub count-requires-clause-room : goal.count-requires-clause-room
count-requires-clause-room c = subst (λ (k : ℕ). HasFeedRoom k c.args.self.now.feeds) (ap (λ (x : Network). x.rows.nodes) c.requires.network) c.requires.feeds

pub overflow_cast-rows : goal.overflow_cast-rows
overflow_cast-rows c = omega (arith, ap (λ (xs : List Branch). length xs) c.branches.ensures.rows, few_branches c.args.case.now c.branches.ensures.valid)

pub find-requires : goal.find-requires
find-requires c =
    let t = c.args.case.now in
    let same = c.graph-graph.ensures.graph in
    let net = c.requires.network in
    let rows = ap (λ (xs : List Branch). length xs) c.branches.ensures.rows in
    record {
      vertices = (let v = ap (λ (x : Graph). x.vertices) same in
          let there = ap (λ (x : Network). x.graph.vertices) net in
          let room = ap (λ (x : Network). x.graph.most_vertices) net in
          let order = c.requires.basis.vertices in
          omega (arith, v, there, room, order, case_vertex_count-le t));
      rows = (let many = ap (λ (x : Network). x.rows.branches) net in let froms = c.requires.basis.branches in omega (arith, rows, many, froms));
      branches = (let all = ap (λ (x : Graph). length x.ends) same in let there = ap (λ (x : Network). length x.graph.ends) net in omega (arith, rows, all, there, length-case_branches t));
    }

pub returns : goal.returns
returns c =
    let t = c.args.case.now in
    let net = c.requires.network in
    let b = c.requires.basis in
    let rows = ap (λ (xs : List Branch). length xs) c.branches.ensures.rows in
    let ends : c.graph-graph.result.now.ends ≡ case_branches t = ap (λ (x : Graph). x.ends) c.graph-graph.ensures.graph ∙ ap (λ (x : Network). x.graph.ends) net in
    let first : take (length c.branches.result.now) c.graph-graph.result.now.ends ≡ case_rows t =
    ap (λ (xs : List (Option Ends)). take (length c.branches.result.now) xs) ends ∙ ap (λ k. take k (case_branches t)) rows ∙ rows_first t in
    let f = c.find.ensures in
    record {
      basis = record {
        basis = record { ready = b.ready; sides = b.sides; vertices = f.vertices ∙ b.vertices; branches = f.rows ∙ b.branches };
        network = net;
        feeds = c.count.ensures.counted;
        bridges = subst (λ (xs : List ℕ). AreBridges (case_rows t) xs c.find.new.self) c.of_buses.ensures.counts
            (subst (λ (xs : List (Option Ends)). AreBridges xs c.of_buses.result.now c.find.new.self) first f.bridges);
      };
      kept = refl;
    }

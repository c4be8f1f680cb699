use Rattle.std.proofs.Common.{◌≡◌, ◌<◌, length, refl, ap, ◌∙◌, arith}
use Rattle.obs_graph.specs.Graph.{Graph}
use Rattle.obs_matroid.proofs.Contained.{All-from_In}
use Rattle.obs_network.specs.Network.{Network, case_branches}
use Rattle.obs_network.proofs.OfCase.{case_bus_count-le, few_nodes}
use Rattle.obs_outage.proofs.Joined.{entry_by}
use Rattle.obs_outage.proofs.Parting.{few_buses, side_buses}
use Rattle.obs_outage.proofs.UnfedSide.{few_pairs, few_positions, unfed_by}
use Rattle.obs_outage.proofs.bridges.unfed_entry.Goals as goal

pub count_lost-lost-requires-clause-few : goal.count_lost-lost-requires-clause-few
count_lost-lost-requires-clause-few c =
    let t = c.args.case.now in
    let v = c.requires.valid in
    let u = c.requires.unfed in
    omega (arith, few_buses t v c.args.e u.0 c.args.side.now u.1, case_bus_count-le t, few_nodes t v)

pub count_lost-lost-requires-clause-few_branches : goal.count_lost-lost-requires-clause-few_branches
count_lost-lost-requires-clause-few_branches c =
    let t = c.args.case.now in
    let same = ap (λ (x : Graph). length x.ends) c.graph.ensures.graph in
    let net = ap (λ (x : Network). length x.graph.ends) c.requires.network in
    omega (arith, few_positions t c.requires.valid, same, net)

pub count_lost-lost-requires-clause-buses : goal.count_lost-lost-requires-clause-buses
count_lost-lost-requires-clause-buses c =
    let t = c.args.case.now in
    let v = c.requires.valid in
    let u = c.requires.unfed in
    let same = ap (λ (x : Graph). x.vertices) c.graph.ensures.graph in
    let net = ap (λ (x : Network). x.graph.vertices) c.requires.network in
    All-from_In (λ b. b < c.graph.result.now.vertices) c.args.side.now (λ b i. let l = side_buses t v c.args.e u.0 c.args.side.now u.1 b i in omega (arith, l, same, net))

pub overflow_cast-lost : goal.overflow_cast-lost
overflow_cast-lost c =
    let t = c.args.case.now in
    let v = c.requires.valid in
    let a = c.args.pairs.now in
    let h = c.requires.longest in
    let ends : c.graph.result.now.ends ≡ case_branches t = ap (λ (x : Graph). x.ends) c.graph.ensures.graph ∙ ap (λ (x : Network). x.graph.ends) c.requires.network in
    let left = unfed_by t v c.args.e c.args.side.now c.requires.unfed a h c.args.network.now c.requires.network c.requires.freed c.graph.result.now.ends ends c.count_lost-lost.result
    c.count_lost-lost.ensures.sum in
    omega (arith, left, few_pairs t v a h)

pub overflow_sub-result : goal.overflow_sub-result
overflow_sub-result c =
    let t = c.args.case.now in
    let v = c.requires.valid in
    let a = c.args.pairs.now in
    let h = c.requires.longest in
    let ends : c.graph.result.now.ends ≡ case_branches t = ap (λ (x : Graph). x.ends) c.graph.ensures.graph ∙ ap (λ (x : Network). x.graph.ends) c.requires.network in
    let left = unfed_by t v c.args.e c.args.side.now c.requires.unfed a h c.args.network.now c.requires.network c.requires.freed c.graph.result.now.ends ends c.count_lost-lost.result
    c.count_lost-lost.ensures.sum in
    let all = c.length.ensures.length in
    omega (arith, left, all)

pub returns : goal.returns
returns c =
    let t = c.args.case.now in
    let v = c.requires.valid in
    let a = c.args.pairs.now in
    let h = c.requires.longest in
    let ends : c.graph.result.now.ends ≡ case_branches t = ap (λ (x : Graph). x.ends) c.graph.ensures.graph ∙ ap (λ (x : Network). x.graph.ends) c.requires.network in
    let left = unfed_by t v c.args.e c.args.side.now c.requires.unfed a h c.args.network.now c.requires.network c.requires.freed c.graph.result.now.ends ends c.count_lost-lost.result
    c.count_lost-lost.ensures.sum in
    let all = c.length.ensures.length in
    record { entry = entry_by t c.args.e _ refl (omega (arith, left, all)) c.requires.needed }

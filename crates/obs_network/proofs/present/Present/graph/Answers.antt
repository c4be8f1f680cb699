use Rattle.std.proofs.Common.{sym, ap, ◌∙◌, subst, arith}
use Rattle.obs_graph.specs.Graph.{Graph}
use Rattle.obs_graph.specs.Positions.{AreBranches}
use Rattle.obs_case.specs.Tables.{IsValid, Tables}
use Rattle.obs_network.specs.Network.{Network, network_of}
use Rattle.obs_network.proofs.OfCase.{case_branches-are, case_vertex_count-le, few_nodes}
use Rattle.obs_network.proofs.present.Present.graph.Goals as goal

pub returns-clause-branches : goal.returns-clause-branches
returns-clause-branches c =
    let t = c.args.self.now in
    let same = c.graph.ensures.graph ∙ ap (λ (n : Network). n.graph) (c.self.invariant.0 ∙ ap network_of c.self.view_is) in
    subst (λ (g : Graph). AreBranches g.vertices g.ends) (sym same) (case_branches-are t (subst (λ (s : Tables). IsValid s) c.self.view_is c.self.invariant.1))

pub returns-clause-few : goal.returns-clause-few
returns-clause-few c =
    let t = c.args.self.now in
    let same = c.graph.ensures.graph ∙ ap (λ (n : Network). n.graph) (c.self.invariant.0 ∙ ap network_of c.self.view_is) in
    let valid = subst (λ (s : Tables). IsValid s) c.self.view_is c.self.invariant.1 in
    omega (arith, ap (λ (g : Graph). g.vertices) same, case_vertex_count-le t, few_nodes t valid)

-- Ranks over the network of a case.
use Rattle.std.proofs.Common.{◌≡◌, ℕ, ◌≤◌, Option, List, [], length, take, ap, ◌∙◌, subst, arith}
use Rattle.obs_graph.specs.declared.Ends.{Ends}
use Rattle.obs_graph.specs.Graph.{Graph}
use Rattle.obs_graph.proofs.Ranks.{rank-le-n}
use Rattle.obs_case.specs.Tables.{IsValid, Tables}
use Rattle.obs_meter.specs.Spanned.{rank_at}
use Rattle.obs_network.specs.Network.{Network, case_branches, case_vertex_count, case_vertex_room, network_of}
use Rattle.obs_network.proofs.OfCase.{case_branches-are, case_vertex_count-le}
use Rattle.obs_cert.specs.declared.contraction.Contraction.{Contraction}
use Rattle.obs_cert.specs.declared.contraction.Contraction.TheVariants.{Nothing}
use Rattle.obs_cert.specs.inner.Contractions.{IsContraction, contracted_ends}
use Rattle.obs_cert.specs.Flaws.{rank_of_branches}
use Rattle.obs_cert.specs.inner.Joins.{AreJoined, onto}
use Rattle.obs_cert.proofs.ContractionLemmas.{branches_below, case_below, contracted_nothing}
use Rattle.obs_cert.proofs.JoinLemmas.{count_is}
use Rattle.obs_cert.proofs.RankLemmas.{noted_rank}

-- there is room for the vertices
pub vertices_fit : (t : Tables) (n : Network) (g : Graph) (long : ℕ) → n ≡ network_of t → g ≡ n.graph → case_vertex_room t ≤ long → g.vertices ≤ long
vertices_fit t n g long is same le =
    let e : g.vertices ≡ case_vertex_count t = ap (λ (s : Graph). s.vertices) (same ∙ ap (λ (m : Network). m.graph) is) in
    omega (arith, e, case_vertex_count-le t, le)

-- what is noted is the rank in the contracted graph
pub contracted_noted : (t : Tables) (c : Contraction) (ps ups moved : List ℕ) (count : ℕ) → IsValid t → IsContraction t c → case_vertex_room t ≤ length ups → count ≤ length moved
    → AreJoined (onto (contracted_ends c (case_branches t)) ps []) ups (take count moved) → count ≡ rank_at (case_vertex_count t) (contracted_ends c (case_branches t)) ps
contracted_noted t c ps ups moved count valid of_case le fits j =
    noted_rank (case_vertex_count t) (contracted_ends c (case_branches t)) ps ups moved count (case_below t c valid of_case) (omega (arith, case_vertex_count-le t, le)) fits j

-- and in the graph
pub case_rank : (t : Tables) (n : Network) (g : Graph) (ps ups moved : List ℕ) (count : ℕ) → IsValid t → n ≡ network_of t → g ≡ n.graph → case_vertex_room t ≤ length ups → count ≤ length moved
    → AreJoined (onto g.ends ps []) ups (take count moved) → count ≡ rank_of_branches t ps
case_rank t n g ps ups moved count valid is same le fits j =
    let e : g.ends ≡ case_branches t = ap (λ (s : Graph). s.ends) (same ∙ ap (λ (m : Network). m.graph) is) in
    noted_rank (case_vertex_count t) (case_branches t) ps ups moved count (branches_below (case_vertex_count t) (case_branches t) (case_branches-are t valid)) (omega (arith, case_vertex_count-le t, le)) fits
    (subst (λ ends. AreJoined (onto ends ps []) ups (take count moved)) e j)

-- where nothing is contracted, the two are one
pub rank_nothing : (t : Tables) (ps : List ℕ) → rank_at (case_vertex_count t) (contracted_ends Nothing (case_branches t)) ps ≡ rank_of_branches t ps
rank_nothing t ps = ap (λ ends. rank_at (case_vertex_count t) ends ps) (contracted_nothing (case_branches t))

pub noted_few : (ends : List (Option Ends)) (ps ups moved : List ℕ) (count : ℕ) → count ≤ length moved → AreJoined (onto ends ps []) ups (take count moved) → count ≤ length ups
noted_few ends ps ups moved count fits j = omega (arith, count_is (onto ends ps []) ups moved count fits j, rank-le-n (length ups) (onto ends ps []))

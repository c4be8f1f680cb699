-- Lengths that stay where arrays are written back, and room for the vertices of a case.
use Rattle.std.proofs.Common.{◌≡◌, ◌≤◌, ◌++◌, ℕ, List, length, drop, take, sym, ap, ◌∙◌, subst}
use Rattle.obs_graph.specs.Graph.{Graph}
use Rattle.obs_graph.proofs.Stored.{written_back}
use Rattle.obs_case.specs.Tables.{Tables}
use Rattle.obs_network.specs.Network.{Network, network_of}
use Rattle.obs_network.proofs.OfCase.{case_vertex_count-le}

-- what is written back is as long as what was there
pub back_length : {X : Type 0} (n : ℕ) (new items : List X) → length new ≡ length items → n ≡ length items → length (take n (new ++ drop (length new) items)) ≡ length items
back_length n new items same len = ap length (written_back n new items same len) ∙ same

-- the graph of a case's network has room for its vertices
pub vertices_there : (n : Network) (t : Tables) → n ≡ network_of t → (g : Graph) → g ≡ n.graph → g.vertices ≤ n.graph.most_vertices
vertices_there n t same g is = subst (λ (h : Graph). h.vertices ≤ n.graph.most_vertices) (sym is) (subst (λ (x : Network). x.graph.vertices ≤ x.graph.most_vertices) (sym same) (case_vertex_count-le t))

-- At which vertices meters touch the first so many branches.
use Rattle.std.specs.Prelude.{◌≡◌, ℕ, suc, List, length, map}
use Rattle.obs_meter.specs.declared.Touch.{Touch}
use Rattle.obs_meter.specs.declared.Touch.TheVariants.{Nothing, Edge, Star, Front}
use Rattle.obs_switch.specs.inner.Groups.{AreGroups}
use Rattle.obs_network.specs.Network.{Network}

-- by meter its vertex, and how many vertices there are
pub record AtVertices : Type 0 where
  pub at : List ℕ
  pub vertices : ℕ

-- the vertex at which something touches the first so many branches, or the number of vertices
abbrev pub front_vertex : ℕ → Touch → ℕ
front_vertex n Nothing = n
front_vertex n (Edge p) = n
front_vertex n (Star v) = n
front_vertex n (Front v count) = v

-- the arrays of the lists by vertex: the meters stand one list after another
pub record AreVertexLists (vertices : ℕ) (at members starts : List ℕ) : Type 0 where
  pub members_len : length members ≡ length at
  pub starts_len : length starts ≡ suc vertices
  pub groups : AreGroups at members starts (suc vertices)

-- the vertices are those of a network's meters
pub record AreVerticesOf (n : Network) (h : AtVertices) : Type 0 where
  pub at : h.at ≡ map (front_vertex n.graph.vertices) n.meters.touches
  pub vertices : h.vertices ≡ n.graph.vertices

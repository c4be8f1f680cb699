-- A network of which one row is left out.
use Rattle.std.specs.Prelude.{◌≡◌, ◌<◌, ℕ, ◌-◌, Bool, ◌==◌, if◌then◌else◌, Option, None, List, length, map, slice_index_or, slice_set, take}
use Rattle.std.specs.List.{list_any}
use Rattle.obs_graph.specs.declared.Ends.{Ends}
use Rattle.obs_graph.specs.Positions.{branches_at}
use Rattle.obs_matroid.specs.Lists.{In}
use Rattle.obs_meter.specs.declared.Touch.{Touch}
use Rattle.obs_meter.specs.declared.Touch.TheVariants.{Nothing, Edge, Star, Front}
use Rattle.obs_network.specs.Network.{Network}
use Rattle.obs_outage.specs.inner.AtVertices.{AreVerticesOf}
use Rattle.obs_outage.specs.declared.rowless.Without.{Without}

-- what is touched where a branch is left out: of the first so many at a vertex one less, where it is one of them
abbrev pub left_out : List (Option Ends) → ℕ → Touch → Touch
left_out ends e Nothing = Nothing
left_out ends e (Edge p) = Edge p
left_out ends e (Star v) = Star v
left_out ends e (Front v count) = if list_any (λ p. p == e) (take count (branches_at ends v)) then Front v (count - 1) else Front v count

-- the same, where the branch is left out or isn't
abbrev pub left_if : List (Option Ends) → Bool → ℕ → Touch → Touch
left_if ends out e touch = if out then left_out ends e touch else touch

-- the listed meters touch what f makes of what they touch elsewhere, and the others what they did
pub record AreTouched (f : Touch → Touch) (list : List ℕ) (elsewhere before after : List Touch) : Type 0 where
  pub len : length after ≡ length before
  pub listed : (m : ℕ) → In m list → slice_index_or after m Nothing ≡ f (slice_index_or elsewhere m Nothing)
  pub rest : (m : ℕ) → (In m list → ⊥) → slice_index_or after m Nothing ≡ slice_index_or before m Nothing

-- the graph has the vertices and branches of a network, the meters touch what its meters do, and stand by their vertices
pub record IsCopy (n : Network) (w : Without) : Type 0 where
  pub vertices : w.graph.vertices ≡ n.graph.vertices
  pub ends : w.graph.ends ≡ n.graph.ends
  pub touches : w.meters.touches ≡ n.meters.touches
  pub at_vertices : AreVerticesOf n w.at_vertices

-- graph and meters are those of a network without the row
pub record IsWithout (n : Network) (e : ℕ) (w : Without) : Type 0 where
  pub row : e < length n.graph.ends
  pub vertices : w.graph.vertices ≡ n.graph.vertices
  pub ends : w.graph.ends ≡ slice_set n.graph.ends e None
  pub touches : w.meters.touches ≡ map (left_out n.graph.ends e) n.meters.touches
  pub at_vertices : AreVerticesOf n w.at_vertices

-- The branches of a graph as a matroid: a list of positions spans a branch whose two ends it joins.
use Rattle.std.specs.Prelude.{ℕ, Bool, List, Option, Some, None, slice_index_or}
use Rattle.obs_graph.specs.declared.Ends.{Ends}
use Rattle.obs_graph.specs.Joined.{is_joined, rank}
use Rattle.obs_graph.specs.Positions.{ends_of}
use Rattle.obs_matroid.specs.Matroid.{Matroid}
use Rattle.obs_matroid.specs.Graphic.{graphic}
use Rattle.obs_meter.specs.declared.Touch.{Touch}
use Rattle.obs_meter.specs.declared.Touch.TheVariants.{Nothing, Edge, Star, Front}

-- the two ends of a branch, and 0 twice for an absent one: no list lacks what it would join
abbrev pub both_ends : Option Ends → ℕ × ℕ
both_ends None = (0, 0)
both_ends (Some e) = (e.a, e.b)

-- the two ends of the branch at a position
abbrev pub ends_at : List (Option Ends) → ℕ → ℕ × ℕ
ends_at ends p = both_ends (slice_index_or ends p None)

-- whether the branches at some positions join u and v
abbrev pub joined_at : List (Option Ends) → List ℕ → ℕ → ℕ → Bool
joined_at ends positions u v = is_joined (ends_of ends positions) u v

-- the rank of the branches at some positions, over the vertices below n
abbrev pub rank_at : ℕ → List (Option Ends) → List ℕ → ℕ
rank_at n ends positions = rank n (ends_of ends positions)

-- the matroid of a graph: its closure is what positions join, and its rank is theirs
abbrev pub graph_matroid : ℕ → List (Option Ends) → Matroid
graph_matroid n ends = graphic (ends_at ends) (joined_at ends) (rank_at n ends)

-- a vertex at which all branches lie that are touched so
abbrev pub common_vertex : List (Option Ends) → Touch → ℕ
common_vertex ends Nothing = 0
common_vertex ends (Edge e) = (ends_at ends e).0
common_vertex ends (Star v) = v
common_vertex ends (Front v count) = v

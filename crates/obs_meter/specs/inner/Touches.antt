-- Whether an item touches a branch, and whether what it touches is in range.
use Rattle.std.specs.Prelude.{ℕ, ◌<◌, ◌≤◌, ◌==◌, Bool, Option, None, Some, List, length, All}
use Rattle.std.specs.List.{list_any}
use Rattle.obs_graph.specs.declared.Ends.{Ends}
use Rattle.obs_graph.specs.Positions.{branches_at}
use Rattle.obs_graph.specs.Graph.{Graph}
use Rattle.obs_meter.specs.declared.Hub.{Hub}
use Rattle.obs_meter.specs.declared.Touch.{Touch}
use Rattle.obs_meter.specs.declared.Touch.TheVariants.{Nothing, Edge, Star, Front}
use Rattle.obs_meter.specs.Touches.{touch_at}

-- the vertex at which the first so many branches are touched, and how many: at a star all of them
abbrev pub hub_of : List (Option Ends) → Touch → Option Hub
hub_of ends Nothing = None
hub_of ends (Edge e) = None
hub_of ends (Star v) = Some (record { vertex = v; count = length (branches_at ends v) })
hub_of ends (Front v count) = Some (record { vertex = v; count = count })

-- whether the item m touches the branch e
abbrev pub touches_branch : List (Option Ends) → List Touch → ℕ → ℕ → Bool
touches_branch ends touches m e = list_any (λ p. p == e) (touch_at ends touches m)

-- the position or the vertex is one of the graph's, and as many branches are there as are to be touched
abbrev pub IsInRange : Graph → Touch → Type 0
IsInRange g Nothing = Unit {0}
IsInRange g (Edge e) = e < length g.ends
IsInRange g (Star v) = v < g.vertices
IsInRange g (Front v count) = (v < g.vertices) × (count ≤ length (branches_at g.ends v))

-- the same for each item
abbrev pub AreInRange : Graph → List Touch → Type 0
AreInRange g touches = All (IsInRange g) touches

-- What holds of the answers to a case: of the trees and the islands.
use Rattle.std.specs.Prelude.{◌≡◌, ◌≢◌, ◌↔◌, ◌∷◌, ℕ, ◌+◌, ◌<◌, ◌≤◌, ◌==◌, Bool, true, List, length, filter, slice_index}
use Rattle.obs_case.specs.Tables.{IsValid, Tables}
use Rattle.obs_matroid.specs.Assignments.{Pair, branches}
use Rattle.obs_matroid.specs.Lists.{In}
use Rattle.obs_matroid.specs.Values.{first_of}
use Rattle.obs_meter.specs.Assignments.{IsRhoAt}
use Rattle.obs_meter.specs.Spanned.{ends_at, graph_matroid, joined_at}
use Rattle.obs_meter.specs.Touches.{touch_at}
use Rattle.obs_first.specs.First.{IsFirstAt}
use Rattle.obs_islands.specs.Islands.{IsFirstIn, IsIslandAt, IsOnlyIslandOf}
use Rattle.obs_network.specs.Switched.{case_bus_count}
use Rattle.obs_network.specs.Network.{case_branches, case_component_count, case_meters, case_need, case_offered, case_vertex_component, case_vertex_count}
use Rattle.obs_network.specs.Observable.{IsObservable, IsRankOf, branch_component, case_live_meters, is_vertex_of}
use Rattle.obs_repair.specs.Bounds.{component_meters}
use Rattle.obs_edit.specs.Answers.{case_first_pairs, case_islands}

-- the pairs of the first assignment of a case's meters whose branches lie in a component; where the component is
-- observable, they are its tree
abbrev pub tree_pairs : Tables → ℕ → List Pair
tree_pairs t c = filter (λ p. branch_component t p.1 == c) (case_first_pairs t)

-- they are the first assignment of the component's live meters alone: these have no longer one, and of those that are as
-- long none comes before it
abbrev pub TreesAreFirst : Type 0
TreesAreFirst = (t : Tables) (c : ℕ) → IsValid t →
    IsFirstAt (case_branches t) (case_meters t) (component_meters t c) (tree_pairs t c)

-- and so computed from these meters alone: the meters of other components make no difference
abbrev pub TreesStandAlone : Type 0
TreesStandAlone = (t : Tables) (c : ℕ) → IsValid t →
    tree_pairs t c ≡ first_of (graph_matroid (case_vertex_count t) (case_branches t))
    (touch_at (case_branches t) (case_meters t)) (component_meters t c)

-- an observable component has as many of them as it needs
abbrev pub TreesAreWhole : Type 0
TreesAreWhole = (t : Tables) (c : ℕ) → IsValid t → c < case_component_count t → IsObservable t c →
    length (tree_pairs t c) ≡ case_need t c

-- and their branches, a forest, join all its vertices
abbrev pub TreesSpan : Type 0
TreesSpan = (t : Tables) (c u w : ℕ) → IsValid t → c < case_component_count t → IsObservable t c →
    u < case_vertex_count t → w < case_vertex_count t → is_vertex_of t c u ≡ true → is_vertex_of t c w ≡ true →
    joined_at (case_branches t) (branches (tree_pairs t c)) u w ≡ true

-- S is an island of the network of a case
abbrev pub IsIslandOf : Tables → (ℕ → Bool) → Type 0
IsIslandOf t S = IsIslandAt (case_vertex_count t) (case_branches t) (case_meters t) S

-- each vertex lies in exactly one island, and is named by the first vertex of that island
abbrev pub IslandsAreNamed : Type 0
IslandsAreNamed = (t : Tables) (u : ℕ) → IsValid t → u < case_vertex_count t →
    (S : ℕ → Bool) × IsOnlyIslandOf (case_vertex_count t) (case_branches t) (case_meters t) u S
    × IsFirstIn (case_vertex_count t) S (slice_index (case_islands t) u)

-- a bus is named by a bus
abbrev pub IslandsBeginWithBuses : Type 0
IslandsBeginWithBuses = (t : Tables) (u : ℕ) → IsValid t → u < case_bus_count t →
    slice_index (case_islands t) u < case_bus_count t

-- two vertices are named alike exactly where some island has both
abbrev pub IslandsTellApart : Type 0
IslandsTellApart = (t : Tables) (u w : ℕ) → IsValid t → u < case_vertex_count t → w < case_vertex_count t →
    (slice_index (case_islands t) u ≡ slice_index (case_islands t) w)
    ↔ ((S : ℕ → Bool) × IsIslandOf t S × (S u ≡ true) × (S w ≡ true))

-- a candidate raises the rank of a case by one exactly where it touches a branch between two islands: one whose ends are named differently.
-- c is its number among the items; a number behind the last one touches nothing
abbrev pub CandidatesBetweenIslandsRaise : Type 0
CandidatesBetweenIslandsRaise = (t : Tables) (c r : ℕ) → IsValid t → length t.meters ≤ c → IsRankOf t r →
    IsRhoAt (case_branches t) (case_offered t) (c ∷ case_live_meters t) (r + 1)
    ↔ ((e : ℕ) × In e (touch_at (case_branches t) (case_offered t) c)
    × (slice_index (case_islands t) (ends_at (case_branches t) e).0 ≢ slice_index (case_islands t) (ends_at (case_branches t) e).1))

-- the vertices of an island are of one component
abbrev pub IslandsLieInComponents : Type 0
IslandsLieInComponents = (t : Tables) (S : ℕ → Bool) (u w : ℕ) → IsValid t → IsIslandOf t S →
    u < case_vertex_count t → w < case_vertex_count t → S u ≡ true → S w ≡ true →
    case_vertex_component t u ≡ case_vertex_component t w

-- a component is observable exactly where its vertices are an island
abbrev pub ObservableIsIsland : Type 0
ObservableIsIsland = (t : Tables) (c : ℕ) → IsValid t → c < case_component_count t →
    IsObservable t c ↔ IsIslandOf t (is_vertex_of t c)

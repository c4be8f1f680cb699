-- The plan of a placement: its items, what these touch, and its pairs.
use Rattle.std.specs.Prelude.{◌≡◌, ℕ, ◌+◌, not, Option, List, [], ◌++◌, length, map}
use Rattle.std.specs.List.{range_with_len}
use Rattle.obs_graph.specs.declared.Ends.{Ends}
use Rattle.obs_graph.specs.Positions.{AreBranches}
use Rattle.obs_case.specs.Tables.{Tables, prices_of}
use Rattle.obs_matroid.specs.Assignments.{Pair}
use Rattle.obs_meter.specs.declared.Touch.{Touch}
use Rattle.obs_meter.specs.Lost.{losing}
use Rattle.obs_forest.specs.Forest.{has_position}
use Rattle.obs_first.specs.First.{IsFirstAt, first_pairs}
use Rattle.obs_placement.specs.Answer.{chosen_of}
use Rattle.obs_placement.specs.Placed.{Placed, PlanValue, placement_of}
use Rattle.obs_placement.specs.Placed.Placed.{cheapest, shortfall}
use Rattle.obs_network.specs.Network.{case_branches, case_needed, case_offered, case_vertex_count}

-- the items of a plan: the meters, and then the candidates at these positions
abbrev pub planned_items : ℕ → List ℕ → List ℕ
planned_items meters chosen = range_with_len 0 meters ++ map (λ k. meters + k) chosen

-- what each item touches, where the items that aren't in the list touch nothing
abbrev pub listed_touches : List Touch → List ℕ → List Touch
listed_touches touches listed = losing (λ m. not (has_position listed m)) touches

-- the pairs of a placement, over what its items touch: the first assignment for a plan, and none for a shortfall
abbrev pub pairs_in : ℕ → List (Option Ends) → List Touch → Placed → List Pair
pairs_in n ends touches (cheapest plan) = first_pairs n ends touches
pairs_in n ends touches (shortfall lack) = []

-- the pairs of the placement of what is offered; the graph has n vertices
abbrev pub placed_pairs : ℕ → List (Option Ends) → List Touch → ℕ → List ℕ → ℕ → List Pair
placed_pairs n ends touches meters prices needed =
    pairs_in n ends (listed_touches touches (planned_items meters (chosen_of n ends touches meters prices)))
    (placement_of n ends touches meters prices needed)

-- they are, for a plan, the first assignment of the meters and then the chosen candidates, over what is offered
abbrev pub PlanPairsAreFirst : Type 0
PlanPairsAreFirst = (n : ℕ) (ends : List (Option Ends)) (touches : List Touch) (meters needed : ℕ) (prices : List ℕ) (plan : PlanValue)
    → AreBranches n ends → length touches ≡ meters + length prices → placement_of n ends touches meters prices needed ≡ cheapest plan
    → IsFirstAt ends touches (planned_items meters plan.chosen) (placed_pairs n ends touches meters prices needed)

-- the placement of a case, and its pairs
abbrev pub case_placement : Tables → Placed
case_placement t =
    placement_of (case_vertex_count t) (case_branches t) (case_offered t) (length t.meters) (prices_of t.candidates) (case_needed t)

abbrev pub case_placed_pairs : Tables → List Pair
case_placed_pairs t =
    placed_pairs (case_vertex_count t) (case_branches t) (case_offered t) (length t.meters) (prices_of t.candidates) (case_needed t)

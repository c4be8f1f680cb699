-- Buses, components and what they need, and what meters touch, of worked cases.
use Rattle.std.specs.Prelude.{◌≡◌, ℕ, true, false, List, [], ◌∷◌, Option, Some, None, map}
use Rattle.obs_case.specs.Tables.{Tables}
use Rattle.obs_graph.specs.declared.Ends.{Ends}
use Rattle.obs_meter.specs.Spanned.{joined_at, rank_at}
use Rattle.obs_meter.specs.Touches.{touch_at}
use Rattle.obs_network.specs.Switched.{case_bus_count, case_buses, case_first_node}
use Rattle.obs_network.specs.Network.{case_branches, case_components, case_energised, case_first_buses, case_meters, case_need, case_needed, case_sizes}
use Rattle.obs_network.specs.Observable.{case_live_meters}
use Rattle.obs_worked.specs.inner.Cases.{absolute_pair, one_open, one_part_shut, row_of_four, three_joined, triangle, two_parts, without_source}

-- a branch between these two vertices
abbrev pub between : ℕ → ℕ → Option Ends
between a b = Some (record { a = a; b = b })

-- what each of the first meters of a case touches
abbrev pub touched : Tables → List ℕ → List (List ℕ)
touched t meters = map (touch_at (case_branches t) (case_meters t)) meters

-- the bus of each node; the number of buses; and the node that names the bus of the last node
abbrev pub BusesOfThreeJoined : Type 0
BusesOfThreeJoined = (case_buses three_joined ≡ 0 ∷ 1 ∷ 1 ∷ 1 ∷ []) × (case_bus_count three_joined ≡ 2) × (case_first_node three_joined 3 ≡ 1)

-- an open switch joins nothing
abbrev pub BusesOfOneOpen : Type 0
BusesOfOneOpen = (case_buses one_open ≡ 0 ∷ 0 ∷ 1 ∷ []) × (case_bus_count one_open ≡ 2)

-- the component of each bus, and the first bus and the size of each component
abbrev pub ComponentsOfTwoParts : Type 0
ComponentsOfTwoParts =
    (case_components two_parts ≡ 0 ∷ 0 ∷ 1 ∷ 1 ∷ [])
    × (case_first_buses two_parts ≡ 0 ∷ 2 ∷ [])
    × (case_sizes two_parts ≡ 2 ∷ 2 ∷ [])

-- a component is energised by its source; a branch is present where it is live and its component is energised
abbrev pub EnergisedOfTwoParts : Type 0
EnergisedOfTwoParts =
    (case_energised two_parts ≡ true ∷ false ∷ [])
    × (case_branches two_parts ≡ between 0 1 ∷ None ∷ None ∷ [])
    × (case_energised without_source ≡ false ∷ [])
    × (case_branches without_source ≡ None ∷ [])

-- a component needs one pair fewer than it has buses, and the case what its energised ones do
abbrev pub NeedsOfTwoParts : Type 0
NeedsOfTwoParts =
    (case_need two_parts 0 ≡ 1) × (case_need two_parts 1 ≡ 1) × (case_needed two_parts ≡ 1)
    × (case_need one_part_shut 1 ≡ 0) × (case_needed one_part_shut ≡ 1)
    × (case_needed row_of_four ≡ 3) × (case_needed without_source ≡ 0)

-- the second component is one bus, where a switch joins its nodes
abbrev pub ComponentsOfOnePartShut : Type 0
ComponentsOfOnePartShut = (case_components one_part_shut ≡ 0 ∷ 0 ∷ 1 ∷ []) × (case_sizes one_part_shut ≡ 2 ∷ 1 ∷ [])

-- an absolute component needs as many pairs as it has buses, and the angle branch of its meter leads from the bus to the reference
abbrev pub AbsoluteNeedsOneMore : Type 0
AbsoluteNeedsOneMore =
    (case_need absolute_pair 0 ≡ 2) × (case_needed absolute_pair ≡ 2)
    × (case_branches absolute_pair ≡ between 0 1 ∷ None ∷ between 1 2 ∷ [])
    × (touched absolute_pair (0 ∷ 1 ∷ []) ≡ (0 ∷ []) ∷ (2 ∷ []) ∷ [])

-- a flow touches its branch, and an injection all branches at its bus
abbrev pub TouchesOfRowOfFour : Type 0
TouchesOfRowOfFour =
    (touched row_of_four (0 ∷ 1 ∷ 2 ∷ []) ≡ (0 ∷ []) ∷ (0 ∷ []) ∷ (0 ∷ 1 ∷ []) ∷ [])
    × (touched triangle (0 ∷ 1 ∷ []) ≡ (0 ∷ 2 ∷ []) ∷ (0 ∷ []) ∷ [])
    × (touched without_source (0 ∷ []) ≡ [] ∷ [])
    × (case_live_meters row_of_four ≡ 0 ∷ 1 ∷ 2 ∷ [])
    × (case_live_meters without_source ≡ [])

-- branches join their ends and what lies between; three of a triangle have the rank of two
abbrev pub JoinedInTriangle : Type 0
JoinedInTriangle =
    (joined_at (case_branches triangle) (0 ∷ []) 0 1 ≡ true)
    × (joined_at (case_branches triangle) (0 ∷ []) 0 2 ≡ false)
    × (joined_at (case_branches triangle) (0 ∷ 1 ∷ []) 0 2 ≡ true)
    × (rank_at 4 (case_branches triangle) (0 ∷ 1 ∷ []) ≡ 2)
    × (rank_at 4 (case_branches triangle) (0 ∷ 1 ∷ 2 ∷ []) ≡ 2)

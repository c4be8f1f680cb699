-- The rank, the critical meters, the first assignment and the islands of worked cases, and which pairs are an assignment.
use Rattle.std.specs.Prelude.{◌≡◌, List, [], ◌∷◌, take}
use Rattle.obs_case.specs.Tables.{Tables}
use Rattle.obs_matroid.specs.Assignments.{IsAssignment, Pair}
use Rattle.obs_meter.specs.Spanned.{graph_matroid}
use Rattle.obs_meter.specs.Touches.{touch_at}
use Rattle.obs_network.specs.Network.{case_branches, case_meters, case_vertex_count}
use Rattle.obs_network.specs.Observable.{case_live_meters, case_rank}
use Rattle.obs_repair.specs.Bounds.{bound_meters, bound_outside, bound_rank, case_critical_meters, short_components}
use Rattle.obs_edit.specs.Answers.{case_first_pairs, case_islands}
use Rattle.obs_worked.specs.inner.Cases.{angles_apart, one_bus, parallel, row_of_five, row_of_four, star, triangle, without_source}

-- these pairs are an assignment of a case's live meters
abbrev pub IsCaseAssignment : Tables → List Pair → Type 0
IsCaseAssignment t A =
    IsAssignment (graph_matroid (case_vertex_count t) (case_branches t)) (touch_at (case_branches t) (case_meters t)) (case_live_meters t) A

-- the first flow at its branch, and the injection at the next one
abbrev pub FlowAndInjectionPair : Type 0
FlowAndInjectionPair = IsCaseAssignment row_of_four ((0, 0) ∷ (2, 1) ∷ [])

-- no branch has two meters
abbrev pub NoBranchHasTwo : Type 0
NoBranchHasTwo = IsCaseAssignment row_of_four ((0, 0) ∷ (1, 0) ∷ []) → ⊥

-- no meter has two branches
abbrev pub NoMeterHasTwo : Type 0
NoMeterHasTwo = IsCaseAssignment row_of_four ((2, 0) ∷ (2, 1) ∷ []) → ⊥

-- no meter has a branch that it doesn't touch
abbrev pub NoneUntouched : Type 0
NoneUntouched = IsCaseAssignment row_of_four ((0, 1) ∷ []) → ⊥

-- no two parallel branches are paired
abbrev pub NoCycle : Type 0
NoCycle = IsCaseAssignment parallel ((0, 0) ∷ (1, 1) ∷ []) → ⊥

-- the greatest length of an assignment
abbrev pub Ranks : Type 0
Ranks =
    (case_rank row_of_four ≡ 2) × (case_rank triangle ≡ 2) × (case_rank parallel ≡ 1) × (case_rank star ≡ 1) × (case_rank without_source ≡ 0)

-- the meters whose loss lowers it
abbrev pub CriticalMeters : Type 0
CriticalMeters =
    (case_critical_meters row_of_four ≡ 2 ∷ [])
    × (case_critical_meters triangle ≡ 0 ∷ 1 ∷ [])
    × (case_critical_meters parallel ≡ [])
    × (case_critical_meters star ≡ 0 ∷ [])

-- a bound: the live meters of the component that aren't critical, the rank of what they touch, and how many others there are
abbrev pub BoundOfRowOfFour : Type 0
BoundOfRowOfFour =
    (short_components row_of_four ≡ 0 ∷ [])
    × (bound_meters row_of_four 0 ≡ 0 ∷ 1 ∷ []) × (bound_rank row_of_four 0 ≡ 1) × (bound_outside row_of_four 0 ≡ 1)
    × (short_components triangle ≡ [])

-- the first assignment: the injection of the triangle takes its higher branch, since the lower one is the only one of the flow
abbrev pub FirstPairs : Type 0
FirstPairs =
    (case_first_pairs row_of_four ≡ (0, 0) ∷ (2, 1) ∷ [])
    × (case_first_pairs triangle ≡ (0, 2) ∷ (1, 0) ∷ [])
    × (case_first_pairs parallel ≡ (0, 0) ∷ [])

-- the first bus of each bus's island. An injection that touches branches to several islands joins none
abbrev pub Islands : Type 0
Islands =
    (take 4 (case_islands row_of_four) ≡ 0 ∷ 0 ∷ 0 ∷ 3 ∷ [])
    × (take 3 (case_islands triangle) ≡ 0 ∷ 0 ∷ 0 ∷ [])
    × (take 4 (case_islands star) ≡ 0 ∷ 1 ∷ 2 ∷ 3 ∷ [])
    × (take 1 (case_islands one_bus) ≡ 0 ∷ [])

-- two angle meters join their buses over the reference, and the bus between stands alone
abbrev pub IslandsOverReference : Type 0
IslandsOverReference = take 3 (case_islands angles_apart) ≡ 0 ∷ 1 ∷ 0 ∷ []

-- five buses of which none are joined
abbrev pub IslandsOfFive : Type 0
IslandsOfFive = take 5 (case_islands row_of_five) ≡ 0 ∷ 1 ∷ 2 ∷ 3 ∷ 4 ∷ []

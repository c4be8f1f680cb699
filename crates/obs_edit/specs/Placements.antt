-- What holds of the placement of a case.
use Rattle.std.specs.Prelude.{◌≡◌, ℕ, ◌+◌, ◌≤◌, ◌<◌, List, length, map}
use Rattle.obs_case.specs.Tables.{IsValid, Tables, prices_of}
use Rattle.obs_matroid.specs.Lists.{In}
use Rattle.obs_matroid.specs.Placement.{IsShown, Layer, RunOn, layers_sum}
use Rattle.obs_meter.specs.Spanned.{graph_matroid}
use Rattle.obs_meter.specs.Touches.{touch_at}
use Rattle.obs_first.specs.First.{IsFirstAt}
use Rattle.obs_placement.specs.Placed.{ShortfallValue, PlanValue}
use Rattle.obs_placement.specs.Placed.Placed.{cheapest, shortfall}
use Rattle.obs_placement.specs.Shown.{bare_layer}
use Rattle.obs_network.specs.Completing.{CompletesCase, price_together}
use Rattle.obs_network.specs.Network.{case_branches, case_needed, case_offered, case_vertex_count}
use Rattle.obs_network.specs.Observable.{IsObservableCase}
use Rattle.obs_meter.specs.Costs.{live_candidates, live_meters, price_of}
use Rattle.obs_edit.specs.Planned.{case_placed_pairs, case_placement, planned_items}

-- the items that a plan chooses
abbrev pub chosen_items : Tables → PlanValue → List ℕ
chosen_items t plan = map (λ k. length t.meters + k) plan.chosen

-- the numbers of a layer are those of the bound of a list of items below its end
abbrev pub IsBoundOf : Tables → Layer → Type 0
IsBoundOf t l =
    IsShown (graph_matroid (case_vertex_count t) (case_branches t)) (touch_at (case_branches t) (case_offered t))
    (price_of (length t.meters) (prices_of t.candidates)) (live_meters (case_branches t) (case_offered t) (length t.meters))
    (live_candidates (case_branches t) (case_offered t) (length t.meters)) l

-- the chosen candidates of a plan complete the meters, and cost what it says
abbrev pub PlansComplete : Type 0
PlansComplete = (t : Tables) (plan : PlanValue) → IsValid t → case_placement t ≡ cheapest plan →
    CompletesCase t (chosen_items t plan) × (plan.cost ≡ price_together t (chosen_items t plan))

-- no candidates that complete the meters cost less
abbrev pub PlansAreCheapest : Type 0
PlansAreCheapest = (t : Tables) (plan : PlanValue) (X : List ℕ) → IsValid t → case_placement t ≡ cheapest plan →
    CompletesCase t X → plan.cost ≤ price_together t X

-- an observable case has a plan, which costs nothing
abbrev pub ObservableCostsNothing : Type 0
ObservableCostsNothing = (t : Tables) → IsValid t → IsObservableCase t → (plan : PlanValue) × (case_placement t ≡ cheapest plan) × (plan.cost ≡ 0)

-- the pairs of a plan are the first assignment of the meters and then its chosen candidates
abbrev pub PlansHaveFirstPairs : Type 0
PlansHaveFirstPairs = (t : Tables) (plan : PlanValue) → IsValid t → case_placement t ≡ cheapest plan →
    IsFirstAt (case_branches t) (case_offered t) (planned_items (length t.meters) plan.chosen) (case_placed_pairs t)

-- the layers of a plan run on from 0. The numbers of each are those of the bound of a list of items, the live meters and the live
-- candidates that cost less than where the layer ends; and they add up to less than the case needs
abbrev pub LayersAreBounds : Type 0
LayersAreBounds = (t : Tables) (plan : PlanValue) → IsValid t → case_placement t ≡ cheapest plan →
    RunOn 0 (map bare_layer plan.layers)
    × ((l : Layer) → In l (map bare_layer plan.layers) → IsBoundOf t l × (l.rank + l.outside < case_needed t))

-- any candidates that complete the meters cost at least what such layers show
abbrev pub LayersBoundCosts : Type 0
LayersBoundCosts = (t : Tables) (layers : List Layer) (X : List ℕ) → IsValid t → RunOn 0 layers →
    ((l : Layer) → In l layers → IsBoundOf t l) → CompletesCase t X → layers_sum (case_needed t) layers ≤ price_together t X

-- what the layers of a plan show adds up to its cost
abbrev pub LayersAddUp : Type 0
LayersAddUp = (t : Tables) (plan : PlanValue) → IsValid t → case_placement t ≡ cheapest plan →
    layers_sum (case_needed t) (map bare_layer plan.layers) ≡ plan.cost

-- the two numbers of a shortfall add up to less than the case needs, and no candidates complete the meters
abbrev pub PlannedShortfallsRefute : Type 0
PlannedShortfallsRefute = (t : Tables) (lack : ShortfallValue) → IsValid t → case_placement t ≡ shortfall lack →
    (lack.rank + lack.outside < case_needed t) × ((X : List ℕ) → CompletesCase t X → ⊥)

-- Laws of the layers of a plan and of the bound of a shortfall.
use Rattle.std.specs.Prelude.{◌≡◌, ◌↔◌, ℕ, ◌+◌, ◌≤◌, ◌<◌, Option, List, length, map, take}
use Rattle.std.specs.List.{sum_by}
use Rattle.obs_graph.specs.declared.Ends.{Ends}
use Rattle.obs_graph.specs.Positions.{AreBranches}
use Rattle.obs_matroid.specs.Lists.{In}
use Rattle.obs_matroid.specs.Placement.{Layer, RunOn, layers_sum, IsShown}
use Rattle.obs_meter.specs.declared.Touch.{Touch}
use Rattle.obs_meter.specs.Assignments.{IsRhoAt, rho_at}
use Rattle.obs_meter.specs.Spanned.{graph_matroid}
use Rattle.obs_meter.specs.Touches.{live_items, touch_at}
use Rattle.obs_meter.specs.Costs.{Completes, live_candidates, live_meters, price_of}
use Rattle.obs_placement.specs.declared.plans.Layer.{Layer as PlanLayer}
use Rattle.obs_placement.specs.Answer.{chosen_of, cost_of}
use Rattle.obs_placement.specs.inner.Layers.{layer_items}
use Rattle.obs_placement.specs.Placed.{shortfall_of, plan_of}
use Rattle.obs_placement.specs.Shown.{bare_layer}

-- the layers of the plan, as the laws of layers speak of them
abbrev pub bare_layers : ℕ → List (Option Ends) → List Touch → ℕ → List ℕ → List Layer
bare_layers n ends touches meters prices = map bare_layer ((plan_of n ends touches meters prices).layers)

-- where all that is offered reaches just the needed number, the layers of the plan show its whole cost
abbrev pub LayersShowTheCost : Type 0
LayersShowTheCost = (n : ℕ) (ends : List (Option Ends)) (touches : List Touch) (meters needed : ℕ) (prices : List ℕ) → AreBranches n ends → length touches ≡ meters + length prices
    → IsRhoAt ends touches (live_items ends touches) needed
    → layers_sum needed (bare_layers n ends touches meters prices) ≡ cost_of prices (chosen_of n ends touches meters prices)

-- they run on from 0, the numbers of each are those of the bound of a list of its items, and this bound is below the needed number
abbrev pub LayersAreShown : Type 0
LayersAreShown = (n : ℕ) (ends : List (Option Ends)) (touches : List Touch) (meters needed : ℕ) (prices : List ℕ) → AreBranches n ends → length touches ≡ meters + length prices
    → IsRhoAt ends touches (live_items ends touches) needed
    → RunOn 0 (bare_layers n ends touches meters prices)
    × ((l : Layer) → In l (bare_layers n ends touches meters prices)
    → IsShown (graph_matroid n ends) (touch_at ends touches) (price_of meters prices) (live_meters ends touches meters) (live_candidates ends touches meters) l
    × (l.rank + l.outside < needed))

-- the list of each layer is the first `upto` entries of what the plan lists
abbrev pub ListsComeFirst : Type 0
ListsComeFirst = (n : ℕ) (ends : List (Option Ends)) (touches : List Touch) (meters : ℕ) (prices : List ℕ) → AreBranches n ends
    → (l : PlanLayer) → In l ((plan_of n ends touches meters prices).layers) → (m : ℕ)
    → In m (take l.upto ((plan_of n ends touches meters prices).inside)) ↔ In m (layer_items n ends touches (price_of meters prices) l.to)

-- the list of a layer holds that of each layer below it
abbrev pub ListsGrow : Type 0
ListsGrow = (n : ℕ) (ends : List (Option Ends)) (touches : List Touch) (meters : ℕ) (prices : List ℕ) → AreBranches n ends → (f t : ℕ) → f ≤ t
    → (m : ℕ) → In m (layer_items n ends touches (price_of meters prices) f) → In m (layer_items n ends touches (price_of meters prices) t)

-- where all that is offered reaches just the needed number, no candidates that complete the meters cost less than the chosen ones
abbrev pub NoneCompletesForLess : Type 0
NoneCompletesForLess = (n : ℕ) (ends : List (Option Ends)) (touches : List Touch) (meters needed : ℕ) (prices X : List ℕ) → AreBranches n ends → length touches ≡ meters + length prices
    → IsRhoAt ends touches (live_items ends touches) needed → Completes ends touches meters needed X
    → cost_of prices (chosen_of n ends touches meters prices) ≤ sum_by (price_of meters prices) X

-- the bound of a shortfall is the greatest length of all that is offered
abbrev pub BoundIsReached : Type 0
BoundIsReached = (n : ℕ) (ends : List (Option Ends)) (touches : List Touch) (needed : ℕ) → AreBranches n ends
    → (shortfall_of n ends touches needed).rank + (shortfall_of n ends touches needed).outside ≡ rho_at n ends touches (live_items ends touches)

-- no candidates bring the meters above it, so none complete them where it is below the needed number
abbrev pub BoundRefutes : Type 0
BoundRefutes = (n : ℕ) (ends : List (Option Ends)) (touches : List Touch) (meters needed : ℕ) (X : List ℕ) → AreBranches n ends
    → (shortfall_of n ends touches needed).rank + (shortfall_of n ends touches needed).outside < needed → Completes ends touches meters needed X → ⊥

-- candidates that complete the meters cost at least what layers show
abbrev pub CompletingCostsWhatLayersShow : Type 0
CompletingCostsWhatLayersShow = (n : ℕ) (ends : List (Option Ends)) (touches : List Touch) (meters needed : ℕ) (prices X : List ℕ) (layers : List Layer) → AreBranches n ends
    → RunOn 0 layers
    → ((l : Layer) → In l layers → IsShown (graph_matroid n ends) (touch_at ends touches) (price_of meters prices) (live_meters ends touches meters) (live_candidates ends touches meters) l)
    → Completes ends touches meters needed X → layers_sum needed layers ≤ sum_by (price_of meters prices) X

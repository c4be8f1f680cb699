-- What the laws of placement are said of: the live meters, the live candidates, and the chosen ones of these, all by item.
use Rattle.std.specs.Prelude.{◌≡◌, ℕ, ◌+◌, ◌≤◌, Option, List, length, filter, map}
use Rattle.std.specs.List.{sum_by}
use Rattle.obs_graph.specs.declared.Ends.{Ends}
use Rattle.obs_graph.specs.Positions.{AreBranches}
use Rattle.obs_matroid.specs.Lists.{In}
use Rattle.obs_matroid.specs.Placement.{Layer, RunOn, layers_sum, IsShown}
use Rattle.obs_meter.specs.declared.Touch.{Touch}
use Rattle.obs_meter.specs.Assignments.{IsRhoAt}
use Rattle.obs_meter.specs.Spanned.{graph_matroid}
use Rattle.obs_meter.specs.Touches.{live_items, touch_at}
use Rattle.obs_meter.specs.Costs.{live_candidates, live_meters, price_of}
use Rattle.obs_rankcut.specs.inner.Costs.{DoAsMuch}
use Rattle.obs_placement.specs.Answer.{chosen_of, cost_of, is_chosen}

-- the chosen candidates
abbrev pub answer_at : ℕ → List (Option Ends) → List Touch → ℕ → List ℕ → List ℕ
answer_at n ends touches meters prices = filter (is_chosen n ends touches (price_of meters prices)) (live_candidates ends touches meters)

-- no set of live candidates that does as much as all costs less than the chosen ones
abbrev pub NoneIsCheaper : Type 0
NoneIsCheaper = (n : ℕ) (ends : List (Option Ends)) (touches : List Touch) (meters r : ℕ) (prices X : List ℕ) → AreBranches n ends
    → IsRhoAt ends touches (live_items ends touches) r → DoAsMuch ends touches meters r X
    → sum_by (price_of meters prices) (answer_at n ends touches meters prices) ≤ sum_by (price_of meters prices) X

-- the chosen candidates do as much as all
abbrev pub ChosenDoAsMuch : Type 0
ChosenDoAsMuch = (n : ℕ) (ends : List (Option Ends)) (touches : List Touch) (meters r : ℕ) (prices : List ℕ) → AreBranches n ends
    → IsRhoAt ends touches (live_items ends touches) r → DoAsMuch ends touches meters r (answer_at n ends touches meters prices)

-- the positions of the chosen candidates are those of the items that the laws speak of, in the same order
abbrev pub PositionsAreOfAnswer : Type 0
PositionsAreOfAnswer = (n : ℕ) (ends : List (Option Ends)) (touches : List Touch) (meters : ℕ) (prices : List ℕ) → length touches ≡ meters + length prices
    → map (λ k. meters + k) (chosen_of n ends touches meters prices) ≡ answer_at n ends touches meters prices

-- what candidates at the chosen positions cost is what these items cost
abbrev pub CostIsOfAnswer : Type 0
CostIsOfAnswer = (n : ℕ) (ends : List (Option Ends)) (touches : List Touch) (meters : ℕ) (prices : List ℕ) → length touches ≡ meters + length prices
    → cost_of prices (chosen_of n ends touches meters prices) ≡ sum_by (price_of meters prices) (answer_at n ends touches meters prices)

-- no set of live candidates that does as much as all costs less than what candidates at the chosen positions cost
abbrev pub CostIsLeast : Type 0
CostIsLeast = (n : ℕ) (ends : List (Option Ends)) (touches : List Touch) (meters r : ℕ) (prices X : List ℕ) → AreBranches n ends → length touches ≡ meters + length prices
    → IsRhoAt ends touches (live_items ends touches) r → DoAsMuch ends touches meters r X
    → cost_of prices (chosen_of n ends touches meters prices) ≤ sum_by (price_of meters prices) X

-- a set of live candidates that reaches the needed number costs at least what layers show, over the live meters and candidates
abbrev pub CostsWhatLayersShow : Type 0
CostsWhatLayersShow = (n : ℕ) (ends : List (Option Ends)) (touches : List Touch) (meters needed : ℕ) (prices X : List ℕ) (layers : List Layer) → AreBranches n ends
    → RunOn 0 layers
    → ((l : Layer) → In l layers → IsShown (graph_matroid n ends) (touch_at ends touches) (price_of meters prices) (live_meters ends touches meters) (live_candidates ends touches meters) l)
    → DoAsMuch ends touches meters needed X → layers_sum needed layers ≤ sum_by (price_of meters prices) X

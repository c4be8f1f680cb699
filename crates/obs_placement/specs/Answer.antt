-- The answer: the candidates that each raise the greatest length, and what they cost.
use Rattle.std.specs.Prelude.{ℕ, ◌+◌, ◌&&◌, Bool, Option, List, length, filter, slice_index_or}
use Rattle.std.specs.List.{range_with_len, sum_by}
use Rattle.obs_graph.specs.declared.Ends.{Ends}
use Rattle.obs_matroid.specs.Placement.{is_raising}
use Rattle.obs_meter.specs.declared.Touch.{Touch}
use Rattle.obs_meter.specs.Spanned.{graph_matroid}
use Rattle.obs_meter.specs.Touches.{is_live, live_items, touch_at}
use Rattle.obs_meter.specs.Costs.{price_of}
use Rattle.obs_placement.specs.Order.{is_earlier}

-- the live items that are taken before c
abbrev pub earlier_items : List (Option Ends) → List Touch → (ℕ → ℕ) → ℕ → List ℕ
earlier_items ends touches price c = filter (is_earlier price c) (live_items ends touches)

-- whether c is live and raises the greatest length of the live items that are taken before it; the graph has n vertices
abbrev pub is_chosen : ℕ → List (Option Ends) → List Touch → (ℕ → ℕ) → ℕ → Bool
is_chosen n ends touches price c =
    is_live ends touches c && is_raising (graph_matroid n ends) (touch_at ends touches) (earlier_items ends touches price c) c

-- the positions of the chosen candidates, rising
abbrev pub chosen_of : ℕ → List (Option Ends) → List Touch → ℕ → List ℕ → List ℕ
chosen_of n ends touches meters prices =
    filter (λ k. is_chosen n ends touches (price_of meters prices) (meters + k)) (range_with_len 0 (length prices))

-- what candidates at these positions cost
abbrev pub cost_of : List ℕ → List ℕ → ℕ
cost_of prices = sum_by (λ k. slice_index_or prices k 0)

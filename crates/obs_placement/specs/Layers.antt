-- The layers of a plan and the items that they list.
use Rattle.std.specs.Prelude.{ℕ, ◌+◌, ◌-◌, ◌==◌, ◌&&◌, not, Bool, Option, List, [], ◌∷◌, ◌++◌, length, filter, slice_index_or}
use Rattle.std.specs.List.{range_with_len, list_any}
use Rattle.obs_graph.specs.declared.Ends.{Ends}
use Rattle.obs_meter.specs.declared.Touch.{Touch}
use Rattle.obs_meter.specs.Touches.{every_item}
use Rattle.obs_rankcut.specs.Bounds.{listed_rank, unlisted}
use Rattle.obs_placement.specs.declared.plans.Layer.{Layer}
use Rattle.obs_placement.specs.Answer.{cost_of}
use Rattle.obs_placement.specs.Taking.{is_below, is_listed_at}

-- whether t is the price of one of the candidates at these positions
abbrev pub is_price_of : List ℕ → List ℕ → ℕ → Bool
is_price_of prices ks t = list_any (λ k. slice_index_or prices k 0 == t) ks

-- the different prices above f of the candidates at these positions, rising; none is above what they cost together
abbrev pub prices_above : List ℕ → List ℕ → ℕ → List ℕ
prices_above prices ks f = filter (is_price_of prices ks) (range_with_len (f + 1) (cost_of prices ks - f))

-- the rank of the branches that a layer's items touch
abbrev pub layer_rank : ℕ → List (Option Ends) → List Touch → (ℕ → ℕ) → ℕ → ℕ
layer_rank n ends touches price t = listed_rank n ends touches (is_listed_at n ends touches price t) (is_below price t)

-- how many other live items are below the price
abbrev pub layer_outside : ℕ → List (Option Ends) → List Touch → (ℕ → ℕ) → ℕ → ℕ
layer_outside n ends touches price t = length (unlisted ends touches (is_listed_at n ends touches price t) (is_below price t))

-- the items of the list that ends at t that aren't in the one that ends at f
abbrev pub added_items : ℕ → List (Option Ends) → List Touch → (ℕ → ℕ) → ℕ → ℕ → List ℕ
added_items n ends touches price f t =
    filter (λ m. is_listed_at n ends touches price t m && not (is_listed_at n ends touches price f m)) (every_item touches)

-- the layer from f to t, where u items are listed before it
abbrev pub layer_of : ℕ → List (Option Ends) → List Touch → (ℕ → ℕ) → ℕ → ℕ → ℕ → Layer
layer_of n ends touches price f t u = record {
  from = f;
  to = t;
  rank = layer_rank n ends touches price t;
  outside = layer_outside n ends touches price t;
  upto = u + length (added_items n ends touches price f t);
}

-- the layers that end at these prices, the first of them from f, where u items are listed before it
abbrev pub layers_of : ℕ → List (Option Ends) → List Touch → (ℕ → ℕ) → ℕ → ℕ → List ℕ → List Layer
layers_of n ends touches price f u [] = []
layers_of n ends touches price f u (t ∷ ts) =
    layer_of n ends touches price f t u ∷ layers_of n ends touches price t (u + length (added_items n ends touches price f t)) ts

-- their lists, one after the other, each without the items of those before it
abbrev pub inside_of : ℕ → List (Option Ends) → List Touch → (ℕ → ℕ) → ℕ → List ℕ → List ℕ
inside_of n ends touches price f [] = []
inside_of n ends touches price f (t ∷ ts) = added_items n ends touches price f t ++ inside_of n ends touches price t ts

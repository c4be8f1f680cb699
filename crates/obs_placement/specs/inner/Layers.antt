-- The items of one layer, and how many are known below a price.
use Rattle.std.specs.Prelude.{ℕ, nat_lt, ◌&&◌, not, Bool, Option, List, length, filter}
use Rattle.std.specs.List.{range_with_len}
use Rattle.obs_graph.specs.declared.Ends.{Ends}
use Rattle.obs_meter.specs.declared.Touch.{Touch}
use Rattle.obs_rankcut.specs.Bounds.{listed}
use Rattle.obs_placement.specs.Taking.{is_below, is_listed_at}
use Rattle.obs_placement.specs.inner.Taking.{since_at}

-- the list of the layer that ends at the price t: of the live items below it those that aren't critical among them; the graph has n vertices
abbrev pub layer_items : ℕ → List (Option Ends) → List Touch → (ℕ → ℕ) → ℕ → List ℕ
layer_items n ends touches price t = listed ends touches (is_listed_at n ends touches price t) (is_below price t)

-- whether the price from which on the item m isn't critical is at least f and below t
abbrev pub is_added : List ℕ → ℕ → ℕ → ℕ → Bool
is_added since f t m = not (nat_lt (since_at since m) f) && nat_lt (since_at since m) t

-- how many items aren't critical from a price below t on
abbrev pub count_known : List ℕ → ℕ → ℕ
count_known since t = length (filter (λ m. nat_lt (since_at since m) t) (range_with_len 0 (length since)))

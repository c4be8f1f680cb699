-- The items that cost less than a price, and those of them that a layer which ends there lists.
use Rattle.std.specs.Prelude.{ℕ, ◌&&◌, Bool, nat_lt, Option, List}
use Rattle.obs_graph.specs.declared.Ends.{Ends}
use Rattle.obs_meter.specs.declared.Touch.{Touch}
use Rattle.obs_meter.specs.Touches.{is_live}
use Rattle.obs_exchange.specs.Laws.{noncritical_in}
use Rattle.obs_rankcut.specs.Bounds.{in_scope}

-- whether an item is below a price
abbrev pub is_below : (ℕ → ℕ) → ℕ → ℕ → Bool
is_below price t m = nat_lt (price m) t

-- the live items below a price: the live meters, where it is above 0, and the live candidates below it
abbrev pub scope_of : List (Option Ends) → List Touch → (ℕ → ℕ) → ℕ → List ℕ
scope_of ends touches price t = in_scope ends touches (is_below price t)

-- whether m is one of them and isn't critical in them; the graph has n vertices
abbrev pub is_listed_at : ℕ → List (Option Ends) → List Touch → (ℕ → ℕ) → ℕ → ℕ → Bool
is_listed_at n ends touches price t m =
    (is_live ends touches m && is_below price t m) && noncritical_in n ends touches (scope_of ends touches price t) m

-- What candidates cost, and which of them complete the meters.
use Rattle.std.specs.Prelude.{ℕ, ◌-◌, ◌≤◌, if◌then◌else◌, not, nat_lt, Option, List, ◌++◌, filter, slice_index_or}
use Rattle.obs_graph.specs.declared.Ends.{Ends}
use Rattle.obs_matroid.specs.Lists.{In}
use Rattle.obs_meter.specs.declared.Touch.{Touch}
use Rattle.obs_meter.specs.Assignments.{IsRhoAt}
use Rattle.obs_meter.specs.Touches.{is_live, live_items}

-- the price of the item m: a meter costs nothing, and the candidates, which are numbered after the meters, their prices
abbrev pub price_of : ℕ → List ℕ → ℕ → ℕ
price_of meters prices m = if nat_lt m meters then 0 else slice_index_or prices (m - meters) 0

abbrev pub live_meters : List (Option Ends) → List Touch → ℕ → List ℕ
live_meters ends touches meters = filter (λ m. nat_lt m meters) (live_items ends touches)

abbrev pub live_candidates : List (Option Ends) → List Touch → ℕ → List ℕ
live_candidates ends touches meters = filter (λ m. not (nat_lt m meters)) (live_items ends touches)

-- the items of X are candidates, and the needed number is the greatest length of the live meters and the live ones of X
pub record Completes (ends : List (Option Ends)) (touches : List Touch) (meters needed : ℕ) (X : List ℕ) : Type 0 where
  pub candidates : (c : ℕ) → In c X → meters ≤ c
  pub reached : IsRhoAt ends touches (live_meters ends touches meters ++ filter (is_live ends touches) X) needed

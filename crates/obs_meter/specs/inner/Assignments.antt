-- The bound of some items of a graph.
use Rattle.std.specs.Prelude.{ℕ, ◌+◌, Bool, Option, List, length, flat_map}
use Rattle.obs_graph.specs.declared.Ends.{Ends}
use Rattle.obs_matroid.specs.Bounds.{inside, outside}
use Rattle.obs_meter.specs.declared.Touch.{Touch}
use Rattle.obs_meter.specs.Touches.{touch_at}
use Rattle.obs_meter.specs.Spanned.{rank_at}

-- the bound of J over M: the rank of what the items in J touch, and one for each other item
abbrev pub bound_at : ℕ → List (Option Ends) → List Touch → (ℕ → Bool) → List ℕ → ℕ
bound_at n ends touches J M = rank_at n ends (flat_map (touch_at ends touches) (inside J M)) + length (outside J M)

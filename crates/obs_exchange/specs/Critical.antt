-- Critical meters: those without which the greatest length of an assignment falls.
use Rattle.std.specs.Prelude.{ℕ, ◌<◌, ◌&&◌, Bool, Option, List, filter}
use Rattle.obs_graph.specs.declared.Ends.{Ends}
use Rattle.obs_matroid.specs.Lists.{In, without}
use Rattle.obs_matroid.specs.Values.{is_critical}
use Rattle.obs_meter.specs.declared.Touch.{Touch}
use Rattle.obs_meter.specs.Assignments.{IsRhoAt}
use Rattle.obs_meter.specs.Spanned.{graph_matroid}
use Rattle.obs_meter.specs.Touches.{every_item, is_live, live_items, touch_at}

-- an item of a list of live items is critical in it: without the item the greatest length of an assignment falls
pub record IsCriticalAt (ends : List (Option Ends)) (touches : List Touch) (M : List ℕ) (m : ℕ) : Type 0 where
  pub item : In m M
  pub falls : (r s : ℕ) → IsRhoAt ends touches M r → IsRhoAt ends touches (without m M) s → s < r

-- whether the meter is live and critical in the live meters; the graph has n vertices
abbrev pub critical_at : ℕ → List (Option Ends) → List Touch → ℕ → Bool
critical_at n ends touches m = is_live ends touches m && is_critical (graph_matroid n ends) (touch_at ends touches) (live_items ends touches) m

-- the critical meters, rising
abbrev pub critical_meters : ℕ → List (Option Ends) → List Touch → List ℕ
critical_meters n ends touches = filter (critical_at n ends touches) (every_item touches)

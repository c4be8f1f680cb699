-- Meters that are critical together.
use Rattle.std.specs.Prelude.{ℕ, Option, List, map}
use Rattle.obs_graph.specs.declared.Ends.{Ends}
use Rattle.obs_matroid.specs.Partners.{class_of}
use Rattle.obs_meter.specs.declared.Touch.{Touch}
use Rattle.obs_meter.specs.Spanned.{graph_matroid}
use Rattle.obs_meter.specs.Touches.{every_item, live_items, touch_at}

-- the class of a meter, named by its first: the first live meter that is this one or a partner of it, and the meter itself
-- where it isn't live
abbrev pub class_at : ℕ → List (Option Ends) → List Touch → ℕ → ℕ
class_at n ends touches = class_of (graph_matroid n ends) (touch_at ends touches) (live_items ends touches)

-- the class of each meter
abbrev pub classes_of : ℕ → List (Option Ends) → List Touch → List ℕ
classes_of n ends touches = map (class_at n ends touches) (every_item touches)

-- Items that aren't critical, computed.
use Rattle.std.specs.Prelude.{ℕ, Bool, not, Option, List}
use Rattle.obs_graph.specs.declared.Ends.{Ends}
use Rattle.obs_matroid.specs.Values.{is_critical}
use Rattle.obs_meter.specs.declared.Touch.{Touch}
use Rattle.obs_meter.specs.Spanned.{graph_matroid}
use Rattle.obs_meter.specs.Touches.{touch_at}

-- the items that aren't critical in M, computed; the graph has n vertices
abbrev pub noncritical_in : ℕ → List (Option Ends) → List Touch → List ℕ → ℕ → Bool
noncritical_in n ends touches M m = not (is_critical (graph_matroid n ends) (touch_at ends touches) M m)

-- Where branches and items lie: in the component in which all lies that they touch. `components` has the component of
-- each bus, and `ends` the ends of the branches by position.
use Rattle.std.specs.Prelude.{ℕ, nat_lt, if◌then◌else◌, Option, Some, None, List, length, slice_index_or}
use Rattle.obs_graph.specs.declared.Ends.{Ends}
use Rattle.obs_meter.specs.declared.Touch.{Touch}
use Rattle.obs_meter.specs.declared.Touch.TheVariants.{Nothing}
use Rattle.obs_meter.specs.Spanned.{common_vertex}
use Rattle.obs_meter.specs.Touches.{touched}
use Rattle.obs_network.specs.Components.{vertex_component}
use Rattle.obs_network.specs.Network.{Network}

-- the component of what is touched so, and none where that is nothing
abbrev pub touch_component : List ℕ → List (Option Ends) → Touch → Option ℕ
touch_component components ends touch =
    if nat_lt 0 (length (touched ends touch)) then Some (vertex_component components (common_vertex ends touch)) else None

-- the component of a meter, or of a candidate behind all meters
abbrev pub component_of_item : Network → ℕ → Option ℕ
component_of_item n m = touch_component n.components.of_buses n.graph.ends (slice_index_or n.offered.touches m Nothing)

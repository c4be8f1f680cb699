-- The component of a branch, and the live meters of a component.
use Rattle.std.specs.Prelude.{ℕ, ◌==◌, Bool, Option, Some, None, List, filter, slice_index_or}
use Rattle.obs_graph.specs.declared.Ends.{Ends}
use Rattle.obs_meter.specs.declared.Touch.TheVariants.{Nothing}
use Rattle.obs_meter.specs.Spanned.{common_vertex}
use Rattle.obs_meter.specs.Touches.{live_items}
use Rattle.obs_network.specs.Components.{vertex_component}
use Rattle.obs_network.specs.Network.{Network}

-- the component of the branch with these ends, and none of an absent one
abbrev pub ends_component : List ℕ → Option Ends → Option ℕ
ends_component components None = None
ends_component components (Some e) = Some (vertex_component components e.a)

-- the component of the branch at a position
abbrev pub component_of_branch : Network → ℕ → Option ℕ
component_of_branch n e = ends_component n.components.of_buses (slice_index_or n.graph.ends e None)

-- whether what a meter touches lies in a component
abbrev pub is_meter_in : Network → ℕ → ℕ → Bool
is_meter_in n c m =
    vertex_component n.components.of_buses (common_vertex n.graph.ends (slice_index_or n.meters.touches m Nothing)) == c

-- the live meters of a component
abbrev pub live_meters_of : Network → ℕ → List ℕ
live_meters_of n c = filter (is_meter_in n c) (live_items n.graph.ends n.meters.touches)

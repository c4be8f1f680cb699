-- The network that a case determines.
use Rattle.std.specs.Prelude.{ℕ, ◌+◌, ◌*◌, Bool, if◌then◌else◌, Option, List, [], ◌++◌, length, take, nat_lt, slice_index}
use Rattle.obs_graph.specs.declared.Ends.{Ends}
use Rattle.obs_graph.specs.Positions.{present}
use Rattle.obs_graph.specs.Graph.{Graph}
use Rattle.obs_switch.specs.Held.{Buses}
use Rattle.obs_case.specs.Tables.{Tables}
use Rattle.obs_meter.specs.declared.Touch.{Touch}
use Rattle.obs_meter.specs.Held.{Meters}
use Rattle.obs_network.specs.Switched.{case_bus_count, case_buses}
use Rattle.obs_network.specs.Live.{live_branches}
use Rattle.obs_network.specs.Components.{absolute_of, component_count, components_of, energised_branches, energised_of, first_buses_of, need_of, needed_of, sizes_of, vertex_component}
use Rattle.obs_network.specs.Angles.{angle_branches, has_angle}
use Rattle.obs_network.specs.Touching.{meter_touches, offered_touches}

-- the live branches of a case by position
unfoldable pub case_live : Tables → List (Option Ends)
case_live t = live_branches (case_buses t) t.branches

-- the component of each bus of a case
unfoldable pub case_components : Tables → List ℕ
case_components t = components_of (case_bus_count t) (present (case_live t))

-- how many components a case has
unfoldable pub case_component_count : Tables → ℕ
case_component_count t = component_count (case_bus_count t) (present (case_live t))

-- the first bus of each component
unfoldable pub case_first_buses : Tables → List ℕ
case_first_buses t = first_buses_of (case_bus_count t) (present (case_live t))

-- how many buses each component has
unfoldable pub case_sizes : Tables → List ℕ
case_sizes t = sizes_of (case_component_count t) (case_components t)

-- which components are energised
unfoldable pub case_energised : Tables → List Bool
case_energised t = energised_of (case_component_count t) (case_components t) (case_buses t) t.nodes

-- which components are absolute
unfoldable pub case_absolute : Tables → List Bool
case_absolute t = absolute_of (case_component_count t) (case_components t) (case_buses t) t.nodes

-- the rows of the branch table by position: those that are live and lie in energised components
unfoldable pub case_rows : Tables → List (Option Ends)
case_rows t = energised_branches (case_components t) (case_energised t) (case_live t)

-- the angle branches by item, where one of the items is an angle item, else none
unfoldable pub case_angles : Tables → List (Option Ends)
case_angles t =
    if has_angle t
    then angle_branches (case_buses t) (case_components t) (case_energised t) (case_absolute t) t.meters t.candidates
    else []

-- the branches by position: the rows of the branch table, and behind them the angle branches
unfoldable pub case_branches : Tables → List (Option Ends)
case_branches t = case_rows t ++ case_angles t

-- the needed number of a case: the sum of what its energised components need
unfoldable pub case_needed : Tables → ℕ
case_needed t = needed_of (case_sizes t) (case_energised t) (case_absolute t) (case_component_count t)

-- what each meter touches
unfoldable pub case_meters : Tables → List Touch
case_meters t = meter_touches (case_rows t) (case_buses t) 0 t.meters

-- what each meter and then each candidate touches
unfoldable pub case_offered : Tables → List Touch
case_offered t = offered_touches (case_rows t) (case_buses t) t.meters t.candidates

-- how many vertices the graph of a case has: the buses, and behind them one reference vertex for each component
abbrev pub case_vertex_count : Tables → ℕ
case_vertex_count t = case_bus_count t + case_component_count t

-- for how many vertices there is room, whichever switches are closed: two for each node
abbrev pub case_vertex_room : Tables → ℕ
case_vertex_room t = 2 * length t.nodes

-- how many items a case has
abbrev pub case_item_count : Tables → ℕ
case_item_count t = length t.meters + length t.candidates

-- whether an item is a meter
abbrev pub is_meter : Tables → ℕ → Bool
is_meter t m = nat_lt m (length t.meters)

-- for how many positions there is room, whatever the items are
abbrev pub case_position_room : Tables → ℕ
case_position_room t = length t.branches + case_item_count t

-- the component of a vertex
abbrev pub case_vertex_component : Tables → ℕ → ℕ
case_vertex_component t v = vertex_component (case_components t) v

-- the component of a node
abbrev pub node_component : Tables → ℕ → ℕ
node_component t u = slice_index (case_components t) (slice_index (case_buses t) u)

-- the pairs that a component needs
abbrev pub case_need : Tables → ℕ → ℕ
case_need t c = need_of (case_sizes t) (case_absolute t) c

-- how many rows each table has
pub record Rows : Type 0 where
  pub nodes : ℕ
  pub switches : ℕ
  pub branches : ℕ
  pub meters : ℕ
  pub candidates : ℕ

abbrev pub rows_of : Tables → Rows
rows_of t = record { nodes = length t.nodes; switches = length t.switches; branches = length t.branches; meters = length t.meters; candidates = length t.candidates }

-- components: that of each bus, and of each component its first bus, its size, whether it is energised and whether it is absolute; and for how many buses there is room
pub record Components : Type 0 where
  pub of_buses : List ℕ
  pub first_buses : List ℕ
  pub sizes : List ℕ
  pub energised : List Bool
  pub absolute : List Bool
  pub most_buses : ℕ

-- a network, with the numbers of rows that it was made for
pub record Network : Type 0 where
  pub rows : Rows
  pub buses : Buses
  pub components : Components
  pub graph : Graph
  pub meters : Meters
  pub offered : Meters
  pub needed : ℕ

-- the network that a case determines: its vertices are the buses and then the reference vertices, and its branches the live rows
-- of energised components and then the angle branches
abbrev pub network_of : Tables → Network
network_of t = record {
  rows = rows_of t;
  buses = record { buses = case_buses t; count = case_bus_count t; most_nodes = length t.nodes };
  components = record { of_buses = case_components t; first_buses = case_first_buses t; sizes = case_sizes t; energised = case_energised t; absolute = case_absolute t; most_buses = length t.nodes };
  graph = record { vertices = case_vertex_count t; ends = case_branches t; most_vertices = case_vertex_room t; most_branches = case_position_room t };
  meters = record { touches = case_meters t; most = length t.meters };
  offered = record { touches = case_offered t; most = case_item_count t };
  needed = case_needed t;
}

-- how many live rows of the branch table energised components have
abbrev pub live_branch_count : Network → ℕ
live_branch_count n = length (present (take n.rows.branches n.graph.ends))

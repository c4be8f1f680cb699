-- The lines that name meters and components: bounds and critical meters.
use Rattle.std.specs.Prelude.{ℕ, List, [], ◌∷◌, ◌++◌, codes, decimal, slice_index}
use Rattle.std.specs.List.{flat_map}
use Rattle.obs_case.specs.Tables.{Tables}
use Rattle.obs_switch.specs.Buses.{members_of}
use Rattle.obs_network.specs.Network.{case_first_buses}
use Rattle.obs_network.specs.Switched.{case_buses}
use Rattle.obs_report.specs.Items.{inside_line, meter_name}
use Rattle.obs_report.specs.Lines.{line_of}
use Rattle.obs_report.specs.Nodes.{node_name}

-- the name of a bus: that of its first node
abbrev pub bus_name : Tables → ℕ → List ℕ
bus_name t bus = node_name t (slice_index (members_of (case_buses t) bus) 0)

-- the name of a component: that of its first bus
abbrev pub component_name : Tables → ℕ → List ℕ
component_name t c = bus_name t (slice_index (case_first_buses t) c)

-- the line of a bound: the name of a component, and two numbers
abbrev pub bound_line : List ℕ → ℕ → ℕ → List ℕ
bound_line name rank outside = line_of (codes "bound" ∷ name ∷ decimal rank ∷ decimal outside ∷ [])

-- the bound of a component: the rank of what the listed meters touch, the number outside the list, and the list
abbrev pub bound_text : Tables → ℕ → List ℕ → ℕ → ℕ → List ℕ
bound_text t c inside rank outside =
    bound_line (component_name t c) rank outside ++ flat_map (inside_line t) inside

-- a critical meter
abbrev pub critical_line : Tables → ℕ → List ℕ
critical_line t m = line_of (codes "critical" ∷ meter_name t m ∷ [])

-- a line for each of these meters
abbrev pub critical_text : Tables → List ℕ → List ℕ
critical_text t meters = flat_map (critical_line t) meters

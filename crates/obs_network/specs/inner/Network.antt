-- What is true of the arrays of a network: its buses, components and graph are those of a case.
use Rattle.std.specs.Prelude.{◌≡◌, ℕ, ◌≤◌, ◌+◌, if◌then◌else◌, Option, List, length}
use Rattle.obs_graph.specs.declared.Ends.{Ends}
use Rattle.obs_graph.specs.Graph.{Graph}
use Rattle.obs_switch.specs.Held.{Buses}
use Rattle.obs_case.specs.Tables.{Tables, most_rows}
use Rattle.obs_network.specs.Switched.{case_bus_count, case_buses}
use Rattle.obs_network.specs.Angles.{has_angle}
use Rattle.obs_network.specs.Network.{case_components, case_first_buses, case_sizes, case_energised, case_absolute, case_branches, case_vertex_count, case_item_count, Components}

-- how many positions the branches of the graph have: one for each row of the branch table, and one for each item where one
-- of them is an angle item
abbrev pub case_position_count : Tables → ℕ
case_position_count t = length t.branches + (if has_angle t then case_item_count t else 0)

-- the buses are those of a case
pub record AreBusesOf (t : Tables) (b : Buses) : Type 0 where
  pub buses : b.buses ≡ case_buses t
  pub count : b.count ≡ case_bus_count t

-- the components are those of a case
pub record AreComponentsOf (t : Tables) (c : Components) : Type 0 where
  pub of_buses : c.of_buses ≡ case_components t
  pub first_buses : c.first_buses ≡ case_first_buses t
  pub sizes : c.sizes ≡ case_sizes t
  pub energised : c.energised ≡ case_energised t
  pub absolute : c.absolute ≡ case_absolute t

-- both are, and they are as few as rows can be
pub record AreFoundOf (t : Tables) (b : Buses) (c : Components) : Type 0 where
  pub few : c.most_buses ≤ most_rows
  pub buses : AreBusesOf t b
  pub components : AreComponentsOf t c

-- the graph is that of a case
pub record IsGraphOf (t : Tables) (g : Graph) : Type 0 where
  pub vertices : g.vertices ≡ case_vertex_count t
  pub ends : g.ends ≡ case_branches t

-- the graph has all live branches of a case, over its buses
pub record IsLiveGraphOf (t : Tables) (live : List (Option Ends)) (g : Graph) : Type 0 where
  pub ends : g.ends ≡ live
  pub vertices : g.vertices ≡ case_bus_count t

-- the graph has room for as much as it had
pub record HasRoomAs (before after : Graph) : Type 0 where
  pub most_vertices : after.most_vertices ≡ before.most_vertices
  pub most_branches : after.most_branches ≡ before.most_branches

-- What the arrays of a network hold.
use Rattle.std.specs.Prelude.{ℕ, suc, ◌+◌, ◌-◌, ◌*◌, ◌≡◌, ◌<◌, ◌≤◌, ◌^◌, All, Bool, if◌then◌else◌, Option, Some, None, List, length, map, slice_index, sum, take}
use Rattle.obs_graph.specs.declared.Ends.{Ends}
use Rattle.obs_graph.specs.inner.Search.{State, room_of}
use Rattle.obs_graph.specs.Graph.{Graph}
use Rattle.obs_case.specs.declared.rows.Node.{Node}
use Rattle.obs_switch.specs.declared.link.Link.{Link}
use Rattle.obs_switch.specs.inner.Groups.{AreGroups}
use Rattle.obs_switch.specs.Held.{Buses}
use Rattle.obs_meter.specs.declared.Touch.{Touch}
use Rattle.obs_meter.specs.Held.{Meters}
use Rattle.obs_meter.specs.inner.Touches.{AreInRange}
use Rattle.obs_network.specs.declared.marks.Flag.{Flag}
use Rattle.obs_network.specs.declared.marks.Flag.TheVariants.{Source, Absolute}
use Rattle.obs_network.specs.Network.{Components}
use Rattle.obs_network.specs.Located.{touch_component}
use Rattle.obs_network.specs.inner.Sides.{Sides}

-- whether a node has a flag
abbrev pub flag_of : Flag → Node → Bool
flag_of Source row = row.source
flag_of Absolute row = row.absolute

-- the pairs that a component of a size needs
abbrev pub need_by : ℕ → Bool → ℕ
need_by size absolute = if absolute then size else size - 1

-- the arrays of components, of which the first entries are in use
pub record AreGrouped (buses count : ℕ) (numbers first_buses sizes : List ℕ) (energised absolute : List Bool) : Type 0 where
  pub small : length numbers < 2 ^ 32
  pub fits : buses ≤ length numbers
  pub few : count ≤ buses
  pub first_len : length first_buses ≡ length numbers
  pub sizes_len : length sizes ≡ length numbers
  pub energised_len : length energised ≡ length numbers
  pub absolute_len : length absolute ≡ length numbers
  pub below : All (λ c. c < count) (take buses numbers)
  pub firsts : All (λ b. b < buses) (take count first_buses)
  pub some : All (λ s. 0 < s) (take count sizes)
  pub whole : sum (take count sizes) ≤ buses

-- the list of what lies in a component or in none, where there are so many: that of the component, or one more
abbrev pub list_of : ℕ → Option ℕ → ℕ
list_of count None = count
list_of count (Some c) = c

-- the list of each meter
abbrev pub lists_of : Components → Graph → Meters → List ℕ
lists_of components graph meters =
    map (λ touch. list_of (length components.first_buses) (touch_component components.of_buses graph.ends touch))
    meters.touches

-- the list of each meter, how many components there are, and for how many of both there is room
pub record Listed : Type 0 where
  pub lists : List ℕ
  pub components : ℕ
  pub most_meters : ℕ
  pub most_components : ℕ

-- the arrays of the lists of meters: the meters stand one list after another
pub record AreListed (meters components most_components : ℕ) (lists members starts : List ℕ) : Type 0 where
  pub small : length lists < 2 ^ 32
  pub fits : meters ≤ length lists
  pub few : components ≤ most_components
  pub members_len : length members ≡ length lists
  pub starts_len : length starts ≡ suc most_components
  pub below : (m : ℕ) → m < meters → slice_index lists m ≤ components
  pub groups : AreGroups (take meters lists) members starts (suc components)

-- the parts of a network agree, and each has the room that it needs
pub record AreParts (links : List Link) (live kept : List (Option Ends)) (touches : List Touch) (search : State)
    (buses : Buses) (components : Components) (graph : Graph) (meters offered : Meters) (listed : Listed) (sides : Sides) : Type 0 where
  pub buses_room : buses.most_nodes ≡ components.most_buses
  pub vertices_room : graph.most_vertices ≡ 2 * components.most_buses
  pub branches_room : graph.most_branches ≡ length live + offered.most
  pub kept_len : length kept ≡ length live + offered.most
  pub kept_ends : take (length graph.ends) kept ≡ graph.ends
  pub touches_len : length touches ≡ offered.most
  pub fewer : meters.most ≤ offered.most
  pub search_room : room_of search ≡ components.most_buses
  pub sides_room : sides.most_vertices ≡ 2 * components.most_buses
  pub vertices : graph.vertices ≡ buses.count + length components.first_buses
  pub of_buses : length components.of_buses ≡ buses.count
  pub meters_in_range : AreInRange graph meters.touches
  pub offered_in_range : AreInRange graph offered.touches
  pub listed_meters : listed.most_meters ≡ meters.most
  pub listed_components : listed.most_components ≡ components.most_buses
  pub listed_count : listed.components ≡ length components.first_buses
  pub lists : listed.lists ≡ lists_of components graph meters

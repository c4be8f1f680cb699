-- The buses of a case: what its closed switches join.
use Rattle.std.specs.Prelude.{ℕ, List, [], ◌∷◌, length, if◌then◌else◌}
use Rattle.obs_case.specs.declared.rows.Switch.{Switch}
use Rattle.obs_case.specs.Tables.{Tables}
use Rattle.obs_switch.specs.declared.link.Link.{Link}
use Rattle.obs_switch.specs.Buses.{buses_of, bus_count, first_node}

-- the closed ones of some switches, as links
abbrev pub closed_links : List Switch → List Link
closed_links [] = []
closed_links (s ∷ switches) = if s.closed then record { from = s.from; to = s.to } ∷ closed_links switches else closed_links switches

-- the bus of each node of a case
abbrev pub case_buses : Tables → List ℕ
case_buses t = buses_of (length t.nodes) (closed_links t.switches)

-- how many buses a case has
abbrev pub case_bus_count : Tables → ℕ
case_bus_count t = bus_count (length t.nodes) (closed_links t.switches)

-- the first node of the bus of a node, which names the bus
abbrev pub case_first_node : Tables → ℕ → ℕ
case_first_node t u = first_node (closed_links t.switches) u

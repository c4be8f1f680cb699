-- Buses: what closed switches join.
use Rattle.std.specs.Prelude.{ℕ, ◌==◌, Bool, List, map}
use Rattle.std.specs.List.{range_with_len}
use Rattle.obs_graph.specs.declared.Ends.{Ends}
use Rattle.obs_graph.specs.Joined.{Chain, count_below, first_joined}
use Rattle.obs_switch.specs.declared.link.Link.{Link}
use Rattle.obs_switch.specs.Groups.{items_with}

-- a closed switch is a branch between its two nodes
abbrev pub ends_of_link : Link → Ends
ends_of_link l = record { a = l.from; b = l.to }

abbrev pub ends_of_links : List Link → List Ends
ends_of_links links = map ends_of_link links

-- two nodes are one bus: a chain of closed switches leads from the one to the other, or they are equal
abbrev pub AreOneBus : List Link → ℕ → ℕ → Type 0
AreOneBus links u v = Chain (ends_of_links links) u v

-- the first node of a node's bus, which names the bus
abbrev pub first_node : List Link → ℕ → ℕ
first_node links u = first_joined (ends_of_links links) u

-- whether a node is the first of its bus
abbrev pub is_first_node : List Link → ℕ → Bool
is_first_node links u = first_node links u == u

-- the number of a node's bus: how many first nodes stand before the one that names it
abbrev pub bus_of : List Link → ℕ → ℕ
bus_of links u = count_below (is_first_node links) (first_node links u)

-- the bus of each of so many nodes
abbrev pub buses_of : ℕ → List Link → List ℕ
buses_of nodes links = map (bus_of links) (range_with_len 0 nodes)

-- how many buses so many nodes have
abbrev pub bus_count : ℕ → List Link → ℕ
bus_count nodes links = count_below (is_first_node links) nodes

-- the nodes of a bus, rising, where these are the buses of the nodes
abbrev pub members_of : List ℕ → ℕ → List ℕ
members_of buses bus = items_with buses bus

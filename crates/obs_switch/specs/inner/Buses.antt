-- Links below a number of nodes, and a bus under other links.
use Rattle.std.specs.Prelude.{ℕ, ◌<◌, List, All, slice_index}
use Rattle.obs_switch.specs.declared.link.Link.{Link}
use Rattle.obs_switch.specs.Buses.{bus_of, buses_of, members_of}

-- the bus, under other links, of the first node of a bus
abbrev pub bus_under : ℕ → List Link → List Link → ℕ → ℕ
bus_under nodes links other bus = bus_of other (slice_index (members_of (buses_of nodes links) bus) 0)

-- both ends of each link are below a number of nodes
abbrev pub LinksBelow : ℕ → List Link → Type 0
LinksBelow nodes links = All (λ l. (l.from < nodes) × (l.to < nodes)) links

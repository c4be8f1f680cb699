-- The nodes that name buses.
use Rattle.std.proofs.Common.{◌<◌, ℕ, length, get_or, subst, arith}
use Rattle.obs_case.specs.Tables.{Tables}
use Rattle.obs_switch.specs.Buses.{members_of}
use Rattle.obs_switch.proofs.FirstNodes.{bus_at, first_member, first_node-le}
use Rattle.obs_network.specs.Switched.{case_bus_count, case_buses, closed_links}

-- a bus has a first node, and this is one of the case
pub first_of_bus : (t : Tables) (bus : ℕ) → bus < case_bus_count t
    → (0 < length (members_of (case_buses t) bus)) × (get_or (members_of (case_buses t) bus) 0 0 < length t.nodes)
first_of_bus t bus l =
    let links = closed_links t.switches in
    let node = bus_at (length t.nodes) links bus l in
    let found = first_member (length t.nodes) links node.0 node.1 in
    let low = first_node-le links node.0 in
    subst (λ b. (0 < length (members_of (case_buses t) b)) × (get_or (members_of (case_buses t) b) 0 0 < length t.nodes)) node.2 (found.0, omega (arith, found.1, low, node.1))

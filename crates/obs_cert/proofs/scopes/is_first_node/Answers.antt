use Rattle.std.proofs.Common.{◌≡◌, ◌<◌, ℕ, length, get_or, eqb, ap, arith}
use Rattle.obs_network.specs.Switched.{case_first_node}
use Rattle.obs_cert.proofs.ScopeLemmas.{buses_are, buses_long, read_member}
use Rattle.obs_cert.proofs.scopes.is_first_node.Goals as goal
use Rattle.obs_cert.proofs.scopes.is_first_node.Goals.{After-members}

pub bus-requires : goal.bus-requires
bus-requires c = record { node = omega (arith, c.requires.node, buses_long c.args.present.now c.network-network.result.now c.buses-buses.result.now c.network-network.ensures.network c.buses-buses.ensures.buses) }

first : (c : After-members) → (0 < length c.members.result.now) × (get_or c.members.result.now 0 0 ≡ case_first_node c.args.present.now c.args.node)
first c =
    read_member c.args.present.now c.args.node c.buses-buses.result.now.buses c.members.result.now c.bus.result c.requires.node
    (buses_are c.args.present.now c.network-network.result.now c.buses-buses.result.now c.network-network.ensures.network c.buses-buses.ensures.buses) c.bus.ensures.bus c.members.ensures.members

pub bounds-members-0 : goal.bounds-members-0
bounds-members-0 c = (first (goal.at.bounds-members-0 c).After-members).0

pub returns : goal.returns
returns c = record { first = ap (λ (k : ℕ). eqb k c.args.node) (first (goal.at.returns c).After-members).1 }

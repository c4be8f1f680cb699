use Rattle.std.proofs.Common.{arith}
use Rattle.obs_cert.proofs.ScopeLemmas.{buses_long}
use Rattle.obs_cert.proofs.scopes.names.Goals as goal

pub bus-bus-requires : goal.bus-bus-requires
bus-bus-requires c = record { node = omega (arith, c.requires.node, buses_long c.args.present.now c.network-network.result.now c.buses.result.now c.network-network.ensures.network c.buses.ensures.buses) }

use Rattle.std.proofs.Common.{ap, arith}
use Rattle.obs_network.specs.Network.{Network}
use Rattle.obs_engine.proofs.Asked.{islands_few}
use Rattle.obs_engine.proofs.trial.is_first_of_island.Goals as goal

pub bounds-found_islands-bus : goal.bounds-found_islands-bus
bounds-found_islands-bus c =
    let net = c.network-network.ensures.network in
    let many = islands_few c.args.session.now.tables c.found_islands.result.now c.network-network.result.now net c.found_islands.ensures.islands in
    omega (arith, c.requires.bus, many, ap (λ (n : Network). n.graph.vertices) net)

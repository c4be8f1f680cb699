use Rattle.std.proofs.Common.{arith}
use Rattle.obs_network.proofs.OfCase.{count_of}
use Rattle.obs_engine.proofs.print_claims.print_component_tree.Goals as goal

pub live_meters-requires : goal.live_meters-requires
live_meters-requires g c =
    let n = count_of c.network.result.now c.args.session.now.tables c.network.ensures.network in
    record { component = omega (arith, n, c.requires.component) }

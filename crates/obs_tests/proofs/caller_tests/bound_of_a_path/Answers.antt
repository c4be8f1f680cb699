use Rattle.std.proofs.Common.{arith}
use Rattle.obs_network.proofs.OfCase.{count_of}
use Rattle.obs_tests.proofs.caller_tests.bound_of_a_path.Goals as goal

pub observable-requires-clause-component : goal.observable-requires-clause-component
observable-requires-clause-component g c =
    omega (arith, c.components.ensures.count, count_of c.network.result.now c.args.session.now.tables c.network.ensures.network)

pub bound-requires-clause-component : goal.bound-requires-clause-component
bound-requires-clause-component g c =
    omega (arith, c.components.ensures.count, count_of c.network.result.now c.args.session.now.tables c.network.ensures.network)

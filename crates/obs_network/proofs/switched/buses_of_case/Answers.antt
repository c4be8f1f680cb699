use Rattle.std.proofs.Common.{length, arith, ap}
use Rattle.obs_network.proofs.OfCase.{few_nodes}
use Rattle.obs_network.proofs.switched.buses_of_case.Goals as goal

pub overflow_cast-nodes : goal.overflow_cast-nodes
overflow_cast-nodes c = omega (arith, ap (λ l. length l) c.nodes.ensures.rows, few_nodes c.args.case.now c.nodes.ensures.valid)

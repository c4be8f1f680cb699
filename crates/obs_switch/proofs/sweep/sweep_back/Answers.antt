use Rattle.std.proofs.Common.{arith}
use Rattle.obs_switch.proofs.FirstNodes.{first_node-link}
use Rattle.obs_switch.proofs.sweep.sweep_back.Goals as goal

pub level-requires-clause-one_bus : goal.level-requires-clause-one_bus
level-requires-clause-one_bus c = first_node-link c.args.links.now _ _ (omega arith)

pub level-requires-clause-labels : goal.level-requires-clause-labels
level-requires-clause-labels c = c.loop-i.invariant.labels

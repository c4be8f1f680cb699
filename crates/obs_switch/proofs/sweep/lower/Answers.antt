use Rattle.obs_switch.proofs.Lowering.{lowered_none}
use Rattle.obs_switch.proofs.Jumping.{lowered_at}
use Rattle.obs_switch.proofs.sweep.lower.Goals as goal

pub returns-then-label-labels-clause-lowered : goal.returns-then-label-labels-clause-lowered
returns-then-label-labels-clause-lowered c = lowered_at c.args.links.now c.args.labels.now c.args.node c.args.label c.requires.labels c.requires.node c.requires.one_bus c.if-label-labels.true

pub returns-clause-lowered : goal.returns-clause-lowered
returns-clause-lowered c = lowered_none c.args.links.now c.args.labels.now c.requires.labels

pub returns-clause-at_most : goal.returns-clause-at_most
returns-clause-at_most c = c.if-label-labels.false

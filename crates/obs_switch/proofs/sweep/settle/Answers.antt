use Rattle.obs_switch.proofs.Lowering.{settled_first}
use Rattle.obs_switch.proofs.sweep.settle.Goals as goal

pub returns-then-not-sweep : goal.returns-then-not-sweep
returns-then-not-sweep c = record { firsts = settled_first c.args.links.now c.sweep.new.labels c.sweep.ensures.lowered.labels (c.sweep.ensures.settled c.if-not-sweep.true) }

use Rattle.obs_switch.proofs.Jumping.{AreJumped}
use Rattle.obs_switch.proofs.sweep.jump.Given as goal

abbrev pub invariant-loop-node : goal.invariant-loop-node
invariant-loop-node l = AreJumped l.links l.fn.labels l.labels l.node l.changed

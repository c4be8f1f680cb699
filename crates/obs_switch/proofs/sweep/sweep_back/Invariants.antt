use Rattle.obs_switch.specs.inner.Labels.{AreLowered}
use Rattle.obs_switch.proofs.sweep.sweep_back.Given as goal

abbrev pub invariant-loop-i : goal.invariant-loop-i
invariant-loop-i l = AreLowered l.links l.fn.labels l.labels l.changed

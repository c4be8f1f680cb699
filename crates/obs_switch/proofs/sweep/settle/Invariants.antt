use Rattle.std.specs.Prelude.{sum_by}
use Rattle.obs_switch.specs.inner.Labels.{AreLabels}
use Rattle.obs_switch.proofs.sweep.settle.Given as goal

abbrev pub invariant-loop-labels : goal.invariant-loop-labels
invariant-loop-labels l = AreLabels l.links l.labels

abbrev pub decreases-loop-labels : goal.decreases-loop-labels
decreases-loop-labels l = sum_by (λ x. x) l.labels

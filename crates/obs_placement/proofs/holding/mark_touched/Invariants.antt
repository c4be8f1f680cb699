use Rattle.std.proofs.Common.{◌≡◌}
use Rattle.obs_placement.specs.inner.Holding.{AreFlagged}
use Rattle.obs_placement.proofs.holding.mark_touched.Given as goal

abbrev pub invariant-loop-e : goal.invariant-loop-e
invariant-loop-e l = AreFlagged l.offer l.known × (l.known ≡ record l.fn.known { touched = l.known.touched })

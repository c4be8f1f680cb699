use Rattle.std.proofs.Common.{◌≡◌}
use Rattle.obs_placement.specs.inner.Holding.{GoesOn}
use Rattle.obs_placement.proofs.taking.take_all.Given as goal

abbrev pub invariant-loop-k : goal.invariant-loop-k
invariant-loop-k g l = GoesOn l.offer l.keys l.k l.taking l.raised × (l.taking.sizes ≡ l.fn.taking.sizes)

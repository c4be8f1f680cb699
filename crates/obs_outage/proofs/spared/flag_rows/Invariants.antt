use Rattle.std.proofs.Common.{◌≡◌}
use Rattle.obs_outage.specs.inner.Sparing.{AreMissed, AreNeeded}
use Rattle.obs_outage.proofs.spared.flag_rows.Given as goal

abbrev pub invariant-loop-e : goal.invariant-loop-e
invariant-loop-e l = AreMissed l.pairs l.part.ends l.flags × (l.sides.most_vertices ≡ l.fn.sides.most_vertices) × AreNeeded l.pairs l.part.ends l.e l.flags

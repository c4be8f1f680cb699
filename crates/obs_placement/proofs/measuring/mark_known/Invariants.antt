use Rattle.std.proofs.Common.{length, nat_lt}
use Rattle.obs_placement.specs.inner.Taking.{since_at}
use Rattle.obs_placement.proofs.Measures.{AreTested}
use Rattle.obs_placement.proofs.measuring.mark_known.Given as goal

abbrev pub invariant-loop-m : goal.invariant-loop-m
invariant-loop-m l = AreTested (λ m. nat_lt (since_at l.since m) l.to) (length l.since) l.m l.marks

use Rattle.std.proofs.Common.{length}
use Rattle.obs_placement.specs.inner.Taking.{since_at}
use Rattle.obs_placement.proofs.Ordered.{AreWritten}
use Rattle.obs_placement.proofs.order.number_known.Given as goal

abbrev pub invariant-loop-m : goal.invariant-loop-m
invariant-loop-m l = AreWritten (since_at l.since) (length l.since) l.m l.keys

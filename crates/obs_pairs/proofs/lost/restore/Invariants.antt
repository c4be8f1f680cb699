use Rattle.std.proofs.Common.{false}
use Rattle.obs_pairs.proofs.Losing.{AreLeft}
use Rattle.obs_pairs.proofs.lost.restore.Given as goal

abbrev pub invariant-loop-m : goal.invariant-loop-m
invariant-loop-m l = AreLeft (λ k. false) l.ms.touches l.fn.left l.left l.m

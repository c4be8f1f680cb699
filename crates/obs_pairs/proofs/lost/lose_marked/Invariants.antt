use Rattle.obs_assign.specs.inner.Assignment.{has_flag}
use Rattle.obs_pairs.proofs.Losing.{AreLeft}
use Rattle.obs_pairs.proofs.lost.lose_marked.Given as goal

abbrev pub invariant-loop-m : goal.invariant-loop-m
invariant-loop-m l = AreLeft (has_flag l.marks) l.ms.touches l.fn.left l.left l.m

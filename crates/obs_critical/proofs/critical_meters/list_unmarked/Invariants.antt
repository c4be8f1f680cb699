use Rattle.std.proofs.Common.{length}
use Rattle.obs_assign.specs.inner.Assignment.{has_flag}
use Rattle.obs_critical.specs.inner.Listed.{is_unmarked_pair}
use Rattle.obs_critical.proofs.Passing.{IsPassed}
use Rattle.obs_critical.proofs.critical_meters.list_unmarked.Given as goal

abbrev pub invariant-loop-m : goal.invariant-loop-m
invariant-loop-m l = IsPassed (is_unmarked_pair l.a (has_flag l.marks)) (length l.ms.touches) l.list l.count l.m

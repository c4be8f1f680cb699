use Rattle.obs_assign.proofs.Choosing.{IsTouching}
use Rattle.obs_assign.proofs.retain.keep_touched.Given as goal

abbrev pub invariant-loop-m : goal.invariant-loop-m
invariant-loop-m l = IsTouching l.g.ends l.ms.touches l.fn.slots l.m l.slots

use Rattle.obs_assign.specs.inner.Assignment.{has_flag}
use Rattle.obs_outage.specs.inner.Sparing.{AreTouchedBy}
use Rattle.obs_outage.proofs.PutWhole.{IsPutBelow}
use Rattle.obs_outage.proofs.spared.put_marked.Given as goal

abbrev pub invariant-loop-m : goal.invariant-loop-m
invariant-loop-m l = AreTouchedBy l.g.ends l.ms.touches (has_flag l.marks) l.part × IsPutBelow l.g.ends l.ms.touches (has_flag l.marks) l.fronts l.part l.m

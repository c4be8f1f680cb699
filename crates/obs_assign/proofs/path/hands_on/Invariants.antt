use Rattle.std.proofs.Common.{None, drop}
use Rattle.obs_assign.specs.inner.Moves.{HandsOn}
use Rattle.obs_assign.proofs.path.hands_on.Given as goal

abbrev pub invariant-loop-x : goal.invariant-loop-x
invariant-loop-x l = HandsOn l.slots l.before (drop l.x-index l.path) → HandsOn l.slots None l.path

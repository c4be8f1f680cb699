use Rattle.std.proofs.Common.{◌≡◌}
use Rattle.obs_first.proofs.least.note_near.Given as goal

abbrev pub invariant-loop-m : goal.invariant-loop-m
invariant-loop-m l = l.work ≡ l.fn.work

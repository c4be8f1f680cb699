use Rattle.std.proofs.Common.{◌≡◌, ◌+◌}
use Rattle.obs_switch.proofs.Moving.{AreChanged}
use Rattle.obs_switch.proofs.regroup.begin_later.Given as goal

abbrev pub invariant-loop-k : goal.invariant-loop-k
invariant-loop-k l = AreChanged (λ x y. x ≡ y + 1) l.fn.starts l.starts l.from l.k

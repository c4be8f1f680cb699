use Rattle.std.proofs.Common.{◌≡◌, ℕ, ◌<◌, true, length}
use Rattle.obs_assign.specs.inner.Assignment.{has_flag}
use Rattle.obs_exchange.proofs.work.loosen.Given as goal

abbrev pub invariant-loop-m : goal.invariant-loop-m
invariant-loop-m l = record {
  set : (k : ℕ) → k < l.m → has_flag l.flags k ≡ true;
  length : length l.flags ≡ length l.fn.flags;
}

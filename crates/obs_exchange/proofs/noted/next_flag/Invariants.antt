use Rattle.std.proofs.Common.{◌≡◌, ℕ, ◌-◌, ◌<◌, ◌≤◌, false}
use Rattle.obs_assign.specs.inner.Assignment.{has_flag}
use Rattle.obs_exchange.proofs.noted.next_flag.Given as goal

abbrev pub invariant-loop-m : goal.invariant-loop-m
invariant-loop-m l = record {
  first : l.first ≤ l.m;
  passed : (k : ℕ) → l.first ≤ k → k < l.m → k < l.limit → has_flag l.flags k ≡ false;
}

abbrev pub decreases-loop-m : goal.decreases-loop-m
decreases-loop-m l = l.limit - l.m

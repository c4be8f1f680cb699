use Rattle.std.proofs.Common.{◌≡◌, ℕ, ◌-◌, ◌<◌, ◌≤◌, true}
use Rattle.obs_assign.specs.inner.Assignment.{has_flag}
use Rattle.obs_exchange.specs.inner.Searching.{IsDone, RunsOn}
use Rattle.obs_exchange.specs.inner.Setting.{IsSourceIn}
use Rattle.obs_exchange.proofs.begin.spread_range.Given as goal

abbrev pub invariant-loop-m : goal.invariant-loop-m
invariant-loop-m l = record {
  runs_on : RunsOn l.over l.fn.search l.search;
  done : IsDone l.search.trail;
  first : l.first ≤ l.m;
  marked : (k : ℕ) → l.first ≤ k → k < l.m → k < l.limit → IsSourceIn l.over k → has_flag l.search.trail.marks k ≡ true;
}

abbrev pub decreases-loop-m : goal.decreases-loop-m
decreases-loop-m l = l.limit - l.m

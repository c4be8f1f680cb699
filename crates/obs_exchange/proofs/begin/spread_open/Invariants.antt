use Rattle.std.proofs.Common.{◌-◌, ◌≤◌}
use Rattle.obs_exchange.specs.inner.Searching.{IsDone, RunsOn}
use Rattle.obs_exchange.proofs.begin.spread_open.Given as goal

abbrev pub invariant-loop-m : goal.invariant-loop-m
invariant-loop-m l = record {
  runs_on : RunsOn l.over l.fn.search l.search;
  done : IsDone l.search.trail;
  first : l.first ≤ l.m;
}

abbrev pub decreases-loop-m : goal.decreases-loop-m
decreases-loop-m l = l.limit - l.m

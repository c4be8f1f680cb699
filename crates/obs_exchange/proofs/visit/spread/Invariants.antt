use Rattle.std.proofs.Common.{◌-◌, length}
use Rattle.obs_exchange.specs.inner.Searching.{RunsOn}
use Rattle.obs_exchange.specs.inner.Trail.{AreLed}
use Rattle.obs_exchange.proofs.visit.spread.Given as goal

abbrev pub invariant-loop-search : goal.invariant-loop-search
invariant-loop-search l = record {
  runs_on : RunsOn l.over l.fn.search l.search;
  led : AreLed l.fn.search.trail l.search.trail;
}

abbrev pub decreases-loop-search : goal.decreases-loop-search
decreases-loop-search l = length l.over.touches - l.search.trail.head

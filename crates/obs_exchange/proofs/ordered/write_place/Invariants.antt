use Rattle.std.proofs.Common.{◌-◌, ◌≤◌, drop}
use Rattle.obs_exchange.proofs.Placing.{AreWritten}
use Rattle.obs_exchange.proofs.ordered.write_place.Given as goal

abbrev pub invariant-loop-k : goal.invariant-loop-k
invariant-loop-k l = record {
  first : l.first ≤ l.k;
  written : AreWritten (drop l.first l.reached) l.place l.fn.places l.places (l.k - l.first);
}

use Rattle.std.proofs.Common.{◌≡◌, ◌-◌, ◌≤◌}
use Rattle.obs_exchange.proofs.find.free_move.Given as goal

abbrev pub invariant-loop-m : goal.invariant-loop-m
invariant-loop-m l = record {
  first : l.first ≤ l.m;
  same : l.stars ≡ l.fn.stars;
}

abbrev pub decreases-loop-m : goal.decreases-loop-m
decreases-loop-m l = l.limit - l.m

use Rattle.std.proofs.Common.{◌≢◌, ℕ, ◌<◌, ◌≤◌, None, get_or}
use Rattle.obs_assign.specs.inner.Assignment.{branch_at}
use Rattle.obs_station.proofs.shown.are_own.Given as goal

abbrev pub invariant-loop-m : goal.invariant-loop-m
invariant-loop-m l = record {
  own : (k : ℕ) → k < l.m-index → branch_at l.a (get_or l.list k 0) ≢ None
      → (l.before ≤ get_or l.reach.firsts.now (get_or l.list k 0) 0) × (l.behind ≤ get_or l.reach.lasts.now (get_or l.list k 0) 0);
}

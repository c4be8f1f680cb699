use Rattle.std.proofs.Common.{◌≡◌, ℕ, ◌<◌, ◌≤◌, get_or, length}
use Rattle.obs_station.proofs.draw.list_meters.Given as goal

abbrev pub invariant-loop-m : goal.invariant-loop-m
invariant-loop-m l = record {
  few : l.count ≤ l.most;
  room : l.count ≤ length l.list;
  low : (k : ℕ) → k < l.count → get_or l.list k 0 < length l.firsts;
  length : length l.list ≡ length l.fn.list;
}

use Rattle.std.proofs.Common.{◌≡◌, ℕ, ◌<◌, ◌≤◌, get_or, length}
use Rattle.obs_station.proofs.draw.draw.Given as goal

abbrev pub invariant-loop-c : goal.invariant-loop-c
invariant-loop-c l = record {
  few : l.count ≤ l.most;
  room : l.count ≤ length l.list;
  low : (k : ℕ) → k < l.count → get_or l.list k 0 < length l.firsts;
  length : length l.list ≡ length l.fn.list;
}

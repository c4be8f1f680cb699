use Rattle.std.proofs.Common.{◌≡◌, ℕ, ◌<◌, get_or, length}
use Rattle.obs_station.proofs.rounds.put_all.Given as goal

abbrev pub invariant-loop-m : goal.invariant-loop-m
invariant-loop-m l = record {
  put : (k : ℕ) → k < l.m → get_or l.places k 0 ≡ l.place;
  length : length l.places ≡ length l.fn.places;
}

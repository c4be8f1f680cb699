use Rattle.std.proofs.Common.{◌≡◌, ℕ, ◌<◌, length, get_or}
use Rattle.obs_exchange.proofs.ordered.begin_places.Given as goal

abbrev pub invariant-loop-m : goal.invariant-loop-m
invariant-loop-m l = record {
  same_length : length l.places ≡ length l.fn.places;
  behind : (k : ℕ) → k < l.m → get_or l.places k 0 ≡ l.count;
}

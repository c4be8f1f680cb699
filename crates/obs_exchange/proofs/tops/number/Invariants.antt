use Rattle.std.proofs.Common.{◌≡◌, ℕ, ◌<◌, length, get_or}
use Rattle.obs_exchange.proofs.tops.number.Given as goal

abbrev pub invariant-loop-v : goal.invariant-loop-v
invariant-loop-v l = record {
  length : length l.numbers ≡ length l.fn.numbers;
  own : (k : ℕ) → k < l.v → get_or l.numbers k 0 ≡ k;
}

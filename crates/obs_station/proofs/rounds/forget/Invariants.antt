use Rattle.std.proofs.Common.{◌≡◌, ℕ, ◌<◌, None, get_or, length}
use Rattle.obs_station.proofs.rounds.forget.Given as goal

abbrev pub invariant-loop-c : goal.invariant-loop-c
invariant-loop-c l = record {
  none : (k : ℕ) → k < l.c → get_or l.ranks k None ≡ None;
  length : length l.ranks ≡ length l.fn.ranks;
}

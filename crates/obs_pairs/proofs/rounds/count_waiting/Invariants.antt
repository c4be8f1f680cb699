use Rattle.std.proofs.Common.{◌≤◌}
use Rattle.obs_pairs.proofs.rounds.count_waiting.Given as goal

abbrev pub invariant-loop-k : goal.invariant-loop-k
invariant-loop-k l = l.count ≤ l.k

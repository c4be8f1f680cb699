use Rattle.std.proofs.Common.{◌≡◌, ℕ, suc, ◌+◌, ◌<◌, get_or, length}
use Rattle.obs_station.proofs.rounds.write_back.Given as goal

abbrev pub invariant-loop-k : goal.invariant-loop-k
invariant-loop-k l = record {
  back : (j i : ℕ) → i < l.k → suc (j + i) ≡ length l.order → get_or l.list i 0 ≡ get_or l.order j 0;
  length : length l.list ≡ length l.fn.list;
}

use Rattle.std.proofs.Common.{◌≡◌, ℕ, ◌<◌}
use Rattle.std.specs.Prelude.{slice_index}
use Rattle.obs_islands.proofs.left.copy_pieces.Given as goal

abbrev pub invariant-loop-v : goal.invariant-loop-v
invariant-loop-v l = record {
  done : (k : ℕ) → k < l.v → slice_index l.firsts k ≡ slice_index l.search.piece k;
}

use Rattle.std.proofs.Common.{◌≡◌, ◌<◌, ℕ, get_or}
use Rattle.obs_graph.specs.Joined.{first_joined}
use Rattle.obs_graph.specs.Positions.{present}
use Rattle.obs_islands.proofs.pieces.name_pieces.Given as goal

abbrev pub invariant-loop-v : goal.invariant-loop-v
invariant-loop-v l = (k : ℕ) → k < l.v → get_or l.firsts k 0 ≡ first_joined (present l.forest.held) k

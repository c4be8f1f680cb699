use Rattle.std.proofs.Common.{◌≡◌, not, eqb, get_or}
use Rattle.obs_graph.specs.Joined.{count_below}
use Rattle.obs_graph.proofs.rank.count_moved.Given as goal

abbrev pub invariant-loop-v : goal.invariant-loop-v
invariant-loop-v l = l.count ≡ count_below (λ v. not (eqb (get_or l.piece v 0) v)) l.v

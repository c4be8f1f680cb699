use Rattle.std.proofs.Common.{sym, ◌∙◌, arith}
use Rattle.obs_graph.proofs.IsJoined.{apart-from_false}
use Rattle.obs_graph.proofs.Glue.{rank-glued_apart}
use Rattle.obs_graph.proofs.Shapes.{rank-merged, rank-merging}
use Rattle.obs_assign.proofs.laws.rank_of_merged.Goals as goal

pub returns-clause-at_most_one : goal.returns-clause-at_most_one
returns-clause-at_most_one c = λ n m s t h es one range. omega (arith, (rank-merging n m s t h one es range).0)

pub returns-clause-no_higher : goal.returns-clause-no_higher
returns-clause-no_higher c = λ n m s t h es one range. (rank-merging n m s t h one es range).1

pub returns-clause-same_if_apart : goal.returns-clause-same_if_apart
returns-clause-same_if_apart c = λ n m s t h es one range apart.
    rank-merged n m s t h es one.one one.into range one.s_low ∙ sym (rank-glued_apart s t es n one.s_low one.t_low (apart-from_false es s t apart))

use Rattle.std.proofs.Common.{sym, ◌∙◌, arith}
use Rattle.obs_graph.proofs.IsJoined.{same-from_true, apart-from_false}
use Rattle.obs_graph.proofs.Glue.{rank-glued_joined, rank-glued_apart}
use Rattle.obs_graph.proofs.Shapes.{is_joined-merged, rank-merged}
use Rattle.obs_graph.proofs.laws.merged_by_new_names.Goals as goal

pub returns-clause-joined : goal.returns-clause-joined
returns-clause-joined c = λ n m s t h es one range. is_joined-merged n s t h es one.one one.s_low one.t_low range

pub returns-clause-rank_if_joined : goal.returns-clause-rank_if_joined
returns-clause-rank_if_joined c = λ n m s t h es one range joined.
    omega (arith, rank-merged n m s t h es one.one one.into range one.s_low, rank-glued_joined s t es n one.s_low one.t_low one.apart (same-from_true es s t joined))

pub returns-clause-rank_if_apart : goal.returns-clause-rank_if_apart
returns-clause-rank_if_apart c = λ n m s t h es one range apart.
    rank-glued_apart s t es n one.s_low one.t_low (apart-from_false es s t apart) ∙ sym (rank-merged n m s t h es one.one one.into range one.s_low)

use Rattle.std.proofs.Common.{arith}
use Rattle.obs_graph.proofs.IsJoined.{same-from_true, true-from_same}
use Rattle.obs_graph.proofs.Sets.{joined_by_rank_in, rank_in_of_joined}
use Rattle.obs_graph.proofs.laws.joined_set_by_rank.Goals as goal

pub returns-clause-joined : goal.returns-clause-joined
returns-clause-joined c = λ inside n es few u v lu lv in_u in_v. true-from_same es u v (joined_by_rank_in inside n es (omega arith) u v lu lv in_u in_v)

pub returns-clause-rank : goal.returns-clause-rank
returns-clause-rank c = λ inside n es m lm in_m all.
    omega (arith, rank_in_of_joined inside n es m lm in_m (λ u lu in_u. same-from_true es u m (all u lu in_u)))

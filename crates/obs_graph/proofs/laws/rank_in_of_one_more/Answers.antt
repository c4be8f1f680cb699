use Rattle.std.proofs.Common.{arith}
use Rattle.obs_graph.proofs.IsJoined.{same-from_true, apart-from_false}
use Rattle.obs_graph.proofs.RankIn.{rank_in-add_new, rank_in-add_joined}
use Rattle.obs_graph.proofs.laws.rank_in_of_one_more.Goals as goal

pub returns-clause-apart : goal.returns-clause-apart
returns-clause-apart c = λ inside n e es la lb in_a in_b apart.
    omega (arith, rank_in-add_new inside e es in_a in_b n la lb (apart-from_false es e.a e.b apart))

pub returns-clause-joined : goal.returns-clause-joined
returns-clause-joined c = λ inside n e es joined. rank_in-add_joined inside n e es (same-from_true es e.a e.b joined)

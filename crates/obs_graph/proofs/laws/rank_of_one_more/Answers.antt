use Rattle.std.proofs.Common.{arith}
use Rattle.obs_graph.proofs.IsJoined.{apart-from_false}
use Rattle.obs_graph.proofs.Ranks.{rank-add_new}
use Rattle.obs_graph.proofs.laws.rank_of_one_more.Goals as goal

pub returns-clause-apart : goal.returns-clause-apart
returns-clause-apart c = λ n e es la lb apart. omega (arith, rank-add_new n e es la lb (apart-from_false es e.a e.b apart))

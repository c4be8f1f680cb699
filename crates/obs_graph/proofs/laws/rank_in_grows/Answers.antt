use Rattle.obs_graph.proofs.IsJoined.{same-from_true}
use Rattle.obs_graph.proofs.RankIn.{rank_in-le}
use Rattle.obs_graph.proofs.laws.rank_in_grows.Goals as goal

pub returns-clause-grows : goal.returns-clause-grows
returns-clause-grows c = λ inside n es fs each. rank_in-le inside n es fs (λ e has. same-from_true fs e.a e.b (each e has))

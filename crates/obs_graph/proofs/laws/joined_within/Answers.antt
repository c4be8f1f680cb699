use Rattle.obs_graph.proofs.IsJoined.{same-from_true, true-from_same}
use Rattle.obs_graph.proofs.Chains.{same_first-more}
use Rattle.obs_graph.proofs.Ranks.{rank-le}
use Rattle.obs_graph.proofs.laws.joined_within.Goals as goal

pub returns-clause-joined : goal.returns-clause-joined
returns-clause-joined c = λ es fs each u v joined. true-from_same fs u v (same_first-more es fs (λ e has. same-from_true fs e.a e.b (each e has)) u v (same-from_true es u v joined))

pub returns-clause-rank : goal.returns-clause-rank
returns-clause-rank c = λ n es fs each. rank-le n es fs (λ e has. same-from_true fs e.a e.b (each e has))

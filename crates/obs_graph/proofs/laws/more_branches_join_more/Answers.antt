use Rattle.obs_graph.proofs.IsJoined.{same-from_true, true-from_same}
use Rattle.obs_graph.proofs.Forests.{same_first-among, rank-among}
use Rattle.obs_graph.proofs.laws.more_branches_join_more.Goals as goal

pub returns-clause-joined : goal.returns-clause-joined
returns-clause-joined c = λ es fs among u v yes. true-from_same fs u v (same_first-among es fs among u v (same-from_true es u v yes))

pub returns-clause-rank : goal.returns-clause-rank
returns-clause-rank c = rank-among

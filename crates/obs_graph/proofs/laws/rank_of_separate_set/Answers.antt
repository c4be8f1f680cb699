use Rattle.obs_graph.specs.inner.Joined.{kept_in}
use Rattle.obs_graph.proofs.IsJoined.{same-from_true, true-from_same}
use Rattle.obs_graph.proofs.Sets.{rank_splits, joined_by_kept, rank_in_of_kept}
use Rattle.obs_graph.proofs.laws.rank_of_separate_set.Goals as goal

pub returns-clause-sum : goal.returns-clause-sum
returns-clause-sum c = λ inside n es separate. rank_splits inside es separate n

pub returns-clause-joined : goal.returns-clause-joined
returns-clause-joined c = λ inside es separate u v in_u joined.
    true-from_same (kept_in inside es) u v (joined_by_kept inside es separate u v in_u (same-from_true es u v joined))

pub returns-clause-rank : goal.returns-clause-rank
returns-clause-rank c = rank_in_of_kept

use Rattle.obs_matroid.proofs.Ranks.{rank-independent, independent_from_rank, independent_any_order, rank_longest, rank_basis}
use Rattle.obs_matroid.proofs.laws.independence.Goals as goal

pub returns-clause-by_rank : goal.returns-clause-by_rank
returns-clause-by_rank c = λ g laws L. (rank-independent g laws L, independent_from_rank g laws L)

pub returns-clause-in_any_order : goal.returns-clause-in_any_order
returns-clause-in_any_order c = independent_any_order

pub returns-clause-greatest : goal.returns-clause-greatest
returns-clause-greatest c = λ g laws L. let b = rank_basis g laws L in (rank_longest g laws L, b.0, b.1, b.2, b.4)

use Rattle.std.proofs.Common.{arith}
use Rattle.obs_graph.proofs.Forests.{rank-le-length}
use Rattle.obs_graph.proofs.MergedBy.{rank-merges, rank-renamed_le}
use Rattle.obs_assign.proofs.laws.rank_of_merges.Goals as goal

pub returns-clause-at_most : goal.returns-clause-at_most
returns-clause-at_most c = λ n m merges h es by_list range. rank-merges n m merges h by_list es range

pub returns-clause-at_most_length : goal.returns-clause-at_most_length
returns-clause-at_most_length c = λ n m merges h es by_list range.
    omega (arith, rank-merges n m merges h by_list es range, rank-le-length n merges by_list.in_range)

pub returns-clause-no_higher : goal.returns-clause-no_higher
returns-clause-no_higher c = λ n m merges h es by_list range. rank-renamed_le n m h by_list.into es range

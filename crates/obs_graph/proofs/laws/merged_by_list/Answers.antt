use Rattle.std.proofs.Common.{arith}
use Rattle.obs_graph.proofs.IsJoined.{apart-from_false}
use Rattle.obs_graph.proofs.MergedBy.{is_joined-merged_by, rank-merged_by, rank-merges_apart, merged_beside, merged_by-nothing, merged_by-one, merged_by-from_one}
use Rattle.obs_graph.proofs.laws.merged_by_list.Goals as goal

pub returns-clause-joined : goal.returns-clause-joined
returns-clause-joined c = λ n m merges h es by_list range. is_joined-merged_by n m merges h by_list es range

pub returns-clause-rank : goal.returns-clause-rank
returns-clause-rank c = λ n m merges h es by_list range. rank-merged_by n m merges h by_list es range

pub returns-clause-one : goal.returns-clause-one
returns-clause-one c = λ n m s t h apart. (merged_by-one n m s t h, merged_by-from_one n m s t h apart)

pub returns-clause-none : goal.returns-clause-none
returns-clause-none c = merged_by-nothing

pub returns-clause-apart : goal.returns-clause-apart
returns-clause-apart c = λ n m e merges h es by_list range apart.
    omega (arith, rank-merges_apart n m e merges h by_list es range (apart-from_false es e.a e.b apart))

pub returns-clause-beside : goal.returns-clause-beside
returns-clause-beside c = λ n m a b ms ns h g left right. merged_beside n m a b ms ns h g left right

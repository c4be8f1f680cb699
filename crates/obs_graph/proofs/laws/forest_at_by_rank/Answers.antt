use Rattle.obs_graph.proofs.AtPositions.{AllPairs-from_IsForestAt, rank-from_IsForestAt, IsForestAt-by_rank}
use Rattle.obs_graph.proofs.laws.forest_at_by_rank.Goals as goal

pub returns-clause-different : goal.returns-clause-different
returns-clause-different c = AllPairs-from_IsForestAt

pub returns-clause-rank : goal.returns-clause-rank
returns-clause-rank c = rank-from_IsForestAt

pub returns-clause-forest : goal.returns-clause-forest
returns-clause-forest c = IsForestAt-by_rank

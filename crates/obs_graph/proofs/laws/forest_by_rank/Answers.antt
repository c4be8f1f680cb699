use Rattle.obs_graph.proofs.Forests.{rank-le-length}
use Rattle.obs_graph.proofs.Exchange.{rank-from_IsForest, IsForest-from_rank}
use Rattle.obs_graph.proofs.laws.forest_by_rank.Goals as goal

pub returns-clause-at_most : goal.returns-clause-at_most
returns-clause-at_most c = rank-le-length

pub returns-clause-forest : goal.returns-clause-forest
returns-clause-forest c = λ n es range. (rank-from_IsForest n es range, IsForest-from_rank n es range)

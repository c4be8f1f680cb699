use Rattle.obs_graph.proofs.RankIn.{rank_in-le-length, forest_by_rank_in}
use Rattle.obs_graph.proofs.laws.forest_by_rank_in.Goals as goal

pub returns-clause-at_most : goal.returns-clause-at_most
returns-clause-at_most c = rank_in-le-length

pub returns-clause-forest : goal.returns-clause-forest
returns-clause-forest c = forest_by_rank_in

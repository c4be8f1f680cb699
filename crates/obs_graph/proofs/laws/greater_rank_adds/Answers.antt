use Rattle.obs_graph.proofs.Exchange.{IsForest-grows}
use Rattle.obs_graph.proofs.laws.greater_rank_adds.Goals as goal

pub returns : goal.returns
returns c = record { one = IsForest-grows }

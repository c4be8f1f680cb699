use Rattle.obs_graph.proofs.Exchange.{AreDifferent-from_IsForest, IsForest-among}
use Rattle.obs_graph.proofs.laws.part_of_forest.Goals as goal

pub returns-clause-different : goal.returns-clause-different
returns-clause-different c = AreDifferent-from_IsForest

pub returns-clause-part : goal.returns-clause-part
returns-clause-part c = IsForest-among

use Rattle.obs_graph.proofs.AtPositions.{IsForestAt-among}
use Rattle.obs_graph.proofs.laws.part_of_forest_at.Goals as goal

pub returns : goal.returns
returns c = record { part = IsForestAt-among }

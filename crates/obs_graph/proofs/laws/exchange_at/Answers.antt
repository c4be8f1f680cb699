use Rattle.obs_graph.proofs.AtPositions.{IsForestAt-exchange}
use Rattle.obs_graph.proofs.laws.exchange_at.Goals as goal

pub returns : goal.returns
returns c = record { forest = IsForestAt-exchange }

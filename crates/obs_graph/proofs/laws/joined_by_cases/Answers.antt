use Rattle.obs_graph.proofs.Exchange.{joined_by-is_joined}
use Rattle.obs_graph.proofs.laws.joined_by_cases.Goals as goal

pub returns : goal.returns
returns c = record { same = joined_by-is_joined }

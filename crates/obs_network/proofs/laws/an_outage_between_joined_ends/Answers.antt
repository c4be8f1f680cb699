use Rattle.obs_network.proofs.Spared.{joined_by_rows}
use Rattle.obs_network.proofs.SparedItems.{absent_at, same_but_one}
use Rattle.obs_network.proofs.laws.an_outage_between_joined_ends.Goals as goal

pub returns-clause-same : goal.returns-clause-same
returns-clause-same c = same_but_one

pub returns-clause-absent : goal.returns-clause-absent
returns-clause-absent c = absent_at

pub returns-clause-by_rows : goal.returns-clause-by_rows
returns-clause-by_rows c = joined_by_rows

use Rattle.obs_network.proofs.KeptForests.{forest_closed, forest_opened, forest_rank, forest_with_branch, forest_with_meter}
use Rattle.obs_network.proofs.laws.forests_after_edits.Goals as goal

pub returns-clause-branch : goal.returns-clause-branch
returns-clause-branch c = forest_with_branch

pub returns-clause-meter : goal.returns-clause-meter
returns-clause-meter c = forest_with_meter

pub returns-clause-opened : goal.returns-clause-opened
returns-clause-opened c = forest_opened

pub returns-clause-closed : goal.returns-clause-closed
returns-clause-closed c = forest_closed

pub returns-clause-rank : goal.returns-clause-rank
returns-clause-rank c = forest_rank

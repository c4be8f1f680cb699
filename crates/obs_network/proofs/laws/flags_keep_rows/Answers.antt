use Rattle.obs_network.proofs.OfLaws.{rows-with_branch, rows-with_closed, rows-with_meter}
use Rattle.obs_network.proofs.laws.flags_keep_rows.Goals as goal

pub returns-clause-switch : goal.returns-clause-switch
returns-clause-switch c = rows-with_closed

pub returns-clause-branch : goal.returns-clause-branch
returns-clause-branch c = rows-with_branch

pub returns-clause-meter : goal.returns-clause-meter
returns-clause-meter c = rows-with_meter

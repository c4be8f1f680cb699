use Rattle.obs_network.proofs.Edited.{branches-with_meter, kept_with_meter, merged_with_meter, meters-with_meter, offered-with_meter}
use Rattle.obs_network.proofs.laws.a_meter_changes_its_touch.Goals as goal

pub returns-clause-kept : goal.returns-clause-kept
returns-clause-kept c = kept_with_meter

pub returns-clause-merged : goal.returns-clause-merged
returns-clause-merged c = merged_with_meter

pub returns-clause-branches : goal.returns-clause-branches
returns-clause-branches c = branches-with_meter

pub returns-clause-meters : goal.returns-clause-meters
returns-clause-meters c = meters-with_meter

pub returns-clause-offered : goal.returns-clause-offered
returns-clause-offered c = offered-with_meter

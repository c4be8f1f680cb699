use Rattle.obs_network.proofs.Standing.{angle_present, item_touches, row_present}
use Rattle.obs_network.proofs.laws.items_touch_what_they_stand_at.Goals as goal

pub returns-clause-rows : goal.returns-clause-rows
returns-clause-rows c = row_present

pub returns-clause-angles : goal.returns-clause-angles
returns-clause-angles c = angle_present

pub returns-clause-touched : goal.returns-clause-touched
returns-clause-touched c = item_touches

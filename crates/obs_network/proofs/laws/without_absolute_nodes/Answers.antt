use Rattle.obs_network.proofs.WithoutAngles.{no_angle_present, others_touch, plain_need, plain_rows}
use Rattle.obs_network.proofs.laws.without_absolute_nodes.Goals as goal

pub returns-clause-needs : goal.returns-clause-needs
returns-clause-needs c = plain_need

pub returns-clause-angles : goal.returns-clause-angles
returns-clause-angles c = no_angle_present

pub returns-clause-touches : goal.returns-clause-touches
returns-clause-touches c = others_touch

pub returns-clause-rows : goal.returns-clause-rows
returns-clause-rows c = plain_rows

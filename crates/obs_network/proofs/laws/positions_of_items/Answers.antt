use Rattle.obs_network.proofs.WithoutAngles.{position_of_item}
use Rattle.obs_network.proofs.laws.positions_of_items.Goals as goal

pub returns-clause-angle : goal.returns-clause-angle
returns-clause-angle c = λ t v m e i. (position_of_item t v m e i).0

pub returns-clause-row : goal.returns-clause-row
returns-clause-row c = λ t v m e i. (position_of_item t v m e i).1

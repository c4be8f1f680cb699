use Rattle.obs_network.proofs.InComponents.{kinds_sum, touched_component}
use Rattle.obs_network.proofs.laws.items_lie_in_one_component.Goals as goal

pub returns-clause-item : goal.returns-clause-item
returns-clause-item c = touched_component

pub returns-clause-sum : goal.returns-clause-sum
returns-clause-sum c = kinds_sum

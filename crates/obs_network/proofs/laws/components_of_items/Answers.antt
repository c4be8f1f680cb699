use Rattle.obs_network.proofs.Items.{meter_is_item}
use Rattle.obs_network.proofs.Listed.{idle_in_none, item_in}
use Rattle.obs_network.proofs.laws.components_of_items.Goals as goal

pub returns-clause-touching : goal.returns-clause-touching
returns-clause-touching c = item_in

pub returns-clause-idle : goal.returns-clause-idle
returns-clause-idle c = idle_in_none

pub returns-clause-meters : goal.returns-clause-meters
returns-clause-meters c = meter_is_item

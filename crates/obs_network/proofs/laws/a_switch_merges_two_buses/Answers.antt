use Rattle.obs_network.proofs.Edited.{as_it_is, switched}
use Rattle.obs_network.proofs.laws.a_switch_merges_two_buses.Goals as goal

pub returns-clause-closing : goal.returns-clause-closing
returns-clause-closing c = switched

pub returns-clause-as_it_is : goal.returns-clause-as_it_is
returns-clause-as_it_is c = as_it_is

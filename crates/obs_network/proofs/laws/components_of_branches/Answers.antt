use Rattle.obs_network.proofs.Listed.{absent_in_none, both_ends_in, component_with_branch}
use Rattle.obs_network.proofs.laws.components_of_branches.Goals as goal

pub returns-clause-ends : goal.returns-clause-ends
returns-clause-ends c = both_ends_in

pub returns-clause-absent : goal.returns-clause-absent
returns-clause-absent c = absent_in_none

pub returns-clause-energised : goal.returns-clause-energised
returns-clause-energised c = component_with_branch

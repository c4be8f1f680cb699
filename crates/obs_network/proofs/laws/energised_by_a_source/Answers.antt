use Rattle.obs_network.specs.Components.{is_absolute_node, is_source}
use Rattle.obs_network.proofs.OfLaws.{marked_by_a_node}
use Rattle.obs_network.proofs.Tabled.{absolute_exactly, energised_exactly}
use Rattle.obs_network.proofs.laws.energised_by_a_source.Goals as goal

pub returns-clause-source : goal.returns-clause-source
returns-clause-source c = marked_by_a_node is_source

pub returns-clause-absolute : goal.returns-clause-absolute
returns-clause-absolute c = marked_by_a_node is_absolute_node

pub returns-clause-of_case : goal.returns-clause-of_case
returns-clause-of_case c = energised_exactly

pub returns-clause-absolute_of_case : goal.returns-clause-absolute_of_case
returns-clause-absolute_of_case c = absolute_exactly

use Rattle.obs_network.proofs.Numbered.{one_component}
use Rattle.obs_network.proofs.OfLaws.{one_case_component}
use Rattle.obs_network.proofs.laws.one_component_by_chain.Goals as goal

pub returns-clause-component : goal.returns-clause-component
returns-clause-component c = one_component

pub returns-clause-of_case : goal.returns-clause-of_case
returns-clause-of_case c = one_case_component

use Rattle.obs_graph.proofs.Chains.{Chain-first}
use Rattle.obs_network.proofs.Numbered.{component_of-below, component_of-order}
use Rattle.obs_network.proofs.Marked.{first_bus_at, length-first_buses_of}
use Rattle.obs_network.proofs.OfLaws.{lowest_bus}
use Rattle.obs_network.proofs.laws.components_by_first_buses.Goals as goal

pub returns-clause-one_component : goal.returns-clause-one_component
returns-clause-one_component c = Chain-first

pub returns-clause-lowest : goal.returns-clause-lowest
returns-clause-lowest c = lowest_bus

pub returns-clause-noted : goal.returns-clause-noted
returns-clause-noted c = first_bus_at

pub returns-clause-order : goal.returns-clause-order
returns-clause-order c = component_of-order

pub returns-clause-below : goal.returns-clause-below
returns-clause-below c = component_of-below

pub returns-clause-count : goal.returns-clause-count
returns-clause-count c = length-first_buses_of

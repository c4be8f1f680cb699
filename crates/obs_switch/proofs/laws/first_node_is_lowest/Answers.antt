use Rattle.std.proofs.Common.{arith}
use Rattle.obs_graph.proofs.Chains.{Chain-first, same_first-from_Chain}
use Rattle.obs_switch.specs.Buses.{ends_of_links}
use Rattle.obs_switch.proofs.FirstNodes.{first_node-le}
use Rattle.obs_switch.proofs.laws.first_node_is_lowest.Goals as goal

pub returns-clause-one_bus : goal.returns-clause-one_bus
returns-clause-one_bus c = λ links u. Chain-first (ends_of_links links) u

pub returns-clause-lowest : goal.returns-clause-lowest
returns-clause-lowest c = λ links u v chain. omega (arith, same_first-from_Chain (ends_of_links links) chain, first_node-le links v)

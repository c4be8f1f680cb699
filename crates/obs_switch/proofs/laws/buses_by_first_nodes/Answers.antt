use Rattle.obs_switch.proofs.FirstNodes.{bus_of-order, bus_of-below, bus_at}
use Rattle.obs_switch.proofs.laws.buses_by_first_nodes.Goals as goal

pub returns-clause-order : goal.returns-clause-order
returns-clause-order c = bus_of-order

pub returns-clause-below : goal.returns-clause-below
returns-clause-below c = bus_of-below

pub returns-clause-each : goal.returns-clause-each
returns-clause-each c = bus_at

use Rattle.obs_switch.proofs.FirstNodes.{one_bus}
use Rattle.obs_switch.proofs.laws.one_bus_by_chain.Goals as goal

pub returns : goal.returns
returns c = record { bus = one_bus }

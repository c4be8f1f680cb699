use Rattle.obs_network.proofs.OfLaws.{bus-is_joined}
use Rattle.obs_network.proofs.Tabled.{closed_exactly, one_case_bus}
use Rattle.obs_network.proofs.laws.bus_is_what_switches_join.Goals as goal

pub returns : goal.returns
returns c = record { joined = bus-is_joined; of_case = one_case_bus; closed = closed_exactly }

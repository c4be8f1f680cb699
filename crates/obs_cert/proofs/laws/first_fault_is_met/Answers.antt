use Rattle.obs_cert.proofs.FaultLemmas.{FirstFaultIsMet-holds}
use Rattle.obs_cert.proofs.laws.first_fault_is_met.Goals as goal

pub returns : goal.returns
returns c = record { first = FirstFaultIsMet-holds }

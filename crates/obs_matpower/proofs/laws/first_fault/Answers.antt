use Rattle.obs_matpower.proofs.FirstLemmas.{FirstFaultOfFile-holds}
use Rattle.obs_matpower.proofs.laws.first_fault.Goals as goal

pub returns : goal.returns
returns c = record { first = FirstFaultOfFile-holds }

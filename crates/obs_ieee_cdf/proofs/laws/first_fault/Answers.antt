use Rattle.obs_ieee_cdf.proofs.FirstLemmas.{FirstFaultOfFile-holds}
use Rattle.obs_ieee_cdf.proofs.laws.first_fault.Goals as goal

pub returns : goal.returns
returns c = record { first = FirstFaultOfFile-holds }

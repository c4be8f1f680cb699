use Rattle.obs_case_csv.proofs.FirstLemmas.{FirstFault-holds}
use Rattle.obs_case_csv.proofs.laws.first_fault.Goals as goal

pub returns : goal.returns
returns c = record { first = FirstFault-holds }

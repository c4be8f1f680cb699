use Rattle.obs_case_csv.proofs.AmongLemmas.{FirstFaultBehindFile-holds, FirstFaultOfCase-holds, FirstFaultOfCaseWithin-holds, FirstFaultOfSwitching-holds, FirstFaultOfSwitchingWithin-holds}
use Rattle.obs_case_csv.proofs.laws.first_fault_of_case.Goals as goal

pub returns : goal.returns
returns c = record { first = FirstFaultOfCase-holds; switching = FirstFaultOfSwitching-holds; within = FirstFaultOfCaseWithin-holds; switching_within = FirstFaultOfSwitchingWithin-holds; behind = FirstFaultBehindFile-holds }

use Rattle.obs_matpower.proofs.CaseLemmas.{CaseIsRead-holds, FaultWhereNoCase-holds}
use Rattle.obs_matpower.proofs.laws.case_is_read.Goals as goal

pub returns-clause-case : goal.returns-clause-case
returns-clause-case c = CaseIsRead-holds

pub returns-clause-fault : goal.returns-clause-fault
returns-clause-fault c = FaultWhereNoCase-holds

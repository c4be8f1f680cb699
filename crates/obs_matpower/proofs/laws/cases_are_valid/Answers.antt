use Rattle.obs_matpower.proofs.CaseLemmas.{CasesAreValid-holds, CasesHaveLimit-holds}
use Rattle.obs_matpower.proofs.laws.cases_are_valid.Goals as goal

pub returns : goal.returns
returns c = record { valid = CasesAreValid-holds; limit = CasesHaveLimit-holds }

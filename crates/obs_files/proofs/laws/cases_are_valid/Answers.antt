use Rattle.obs_files.proofs.Valid.{CasesAreValid-holds}
use Rattle.obs_files.proofs.Worded.{rows_of}
use Rattle.obs_files.proofs.laws.cases_are_valid.Goals as goal

pub returns : goal.returns
returns c = record { valid = CasesAreValid-holds; rows = rows_of }

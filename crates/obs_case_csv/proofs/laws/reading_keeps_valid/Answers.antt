use Rattle.obs_case_csv.proofs.ValidLemmas.{KeepsValid-holds}
use Rattle.obs_case_csv.proofs.laws.reading_keeps_valid.Goals as goal

pub returns : goal.returns
returns c = record { valid = KeepsValid-holds }

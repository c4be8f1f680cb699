use Rattle.obs_trial.proofs.ValidLemmas.{valid_trial}
use Rattle.obs_trial.proofs.laws.valid.Goals as goal

pub returns : goal.returns
returns c = record { valid = λ n seed some high. valid_trial n seed some high }

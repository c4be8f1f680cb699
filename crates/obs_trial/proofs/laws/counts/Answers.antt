use Rattle.obs_trial.proofs.CountLemmas.{counts}
use Rattle.obs_trial.proofs.laws.counts.Goals as goal

pub returns : goal.returns
returns c = record { counts = counts }

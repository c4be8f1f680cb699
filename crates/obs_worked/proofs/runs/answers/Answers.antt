use Rattle.obs_worked.proofs.Computed.{computed}
use Rattle.obs_worked.proofs.runs.answers.Goals as goal

pub returns : goal.returns
unfolding computed
returns c = record { topology = λ reply e. e; report = λ reply e. e; session = λ reply e. e }

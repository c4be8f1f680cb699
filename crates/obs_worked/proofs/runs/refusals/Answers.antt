use Rattle.obs_worked.proofs.Computed.{computed}
use Rattle.obs_worked.proofs.runs.refusals.Goals as goal

pub returns : goal.returns
unfolding computed
returns c = record { fault = λ reply e. e; usage = (λ reply e. e, λ reply e. e) }

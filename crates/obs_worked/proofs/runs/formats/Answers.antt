use Rattle.obs_worked.proofs.Computed.{computed}
use Rattle.obs_worked.proofs.runs.formats.Goals as goal

pub returns : goal.returns
unfolding computed
returns c = record { cdf = (λ reply e. e, λ reply e. e); matpower = (λ reply e. e, λ reply e. e) }

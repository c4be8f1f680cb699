use Rattle.std.specs.Prelude.{refl}
use Rattle.obs_worked.proofs.Computed.{computed}
use Rattle.obs_worked.proofs.reports.summaries.Goals as goal

pub returns : goal.returns
unfolding computed
returns c = record { said = (refl, refl, refl, refl, refl, refl) }

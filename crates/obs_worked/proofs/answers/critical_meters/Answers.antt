use Rattle.std.specs.Prelude.{refl}
use Rattle.obs_worked.proofs.Computed.{computed}
use Rattle.obs_worked.proofs.answers.critical_meters.Goals as goal

pub returns : goal.returns
unfolding computed
returns c = record { critical = (refl, refl, refl, refl); bound = (refl, refl, refl, refl, refl) }

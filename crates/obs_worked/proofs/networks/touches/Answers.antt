use Rattle.std.specs.Prelude.{refl}
use Rattle.obs_worked.proofs.Computed.{computed}
use Rattle.obs_worked.proofs.networks.touches.Goals as goal

pub returns : goal.returns
unfolding computed
returns c = record { touched = (refl, refl, refl, refl, refl) }

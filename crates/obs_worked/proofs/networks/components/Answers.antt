use Rattle.std.specs.Prelude.{refl}
use Rattle.obs_worked.proofs.Computed.{computed}
use Rattle.obs_worked.proofs.networks.components.Goals as goal

pub returns : goal.returns
unfolding computed
returns c = record { parts = (refl, refl, refl); shut = (refl, refl); energised = (refl, refl, refl, refl); needs = (refl, refl, refl, refl, refl, refl, refl); absolute = (refl, refl, refl, refl) }

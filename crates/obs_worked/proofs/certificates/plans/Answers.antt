use Rattle.std.specs.Prelude.{refl}
use Rattle.obs_worked.proofs.Computed.{computed}
use Rattle.obs_worked.proofs.certificates.plans.Goals as goal

pub returns : goal.returns
unfolding computed
returns c = record { checked = (refl, refl, refl, refl); outside = refl }

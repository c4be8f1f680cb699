use Rattle.std.specs.Prelude.{refl}
use Rattle.obs_worked.proofs.Computed.{computed}
use Rattle.obs_worked.proofs.after_losses.stations.Goals as goal

pub returns : goal.returns
unfolding computed
returns c = record { printed = (refl, refl, refl, refl) }

use Rattle.std.specs.Prelude.{refl}
use Rattle.obs_worked.proofs.Computed.{computed}
use Rattle.obs_worked.proofs.faults.tables.Goals as goal

pub returns : goal.returns
unfolding computed
returns c = record { nodes = (refl, refl, refl, refl, refl); others = (refl, refl, refl, refl) }

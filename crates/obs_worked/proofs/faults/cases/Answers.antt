use Rattle.std.specs.Prelude.{refl}
use Rattle.obs_worked.proofs.Computed.{computed}
use Rattle.obs_worked.proofs.faults.cases.Goals as goal

pub returns : goal.returns
unfolding computed
returns c = record { read = refl }

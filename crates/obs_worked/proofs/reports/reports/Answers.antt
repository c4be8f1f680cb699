use Rattle.std.specs.Prelude.{refl}
use Rattle.obs_worked.proofs.Computed.{computed}
use Rattle.obs_worked.proofs.reports.reports.Goals as goal

pub returns : goal.returns
unfolding computed
returns c = record { row = refl; triangle = refl; parallel = refl; star = refl; without_source = refl; one_bus = refl; absolute = refl }

use Rattle.std.specs.Prelude.{refl}
use Rattle.obs_worked.proofs.Computed.{computed}
use Rattle.obs_worked.proofs.reports.placements.Goals as goal

pub returns : goal.returns
unfolding computed
returns c = record { plan = refl; given = refl; angle = refl; layers = refl; shortfall = refl }

use Rattle.obs_claimed.proofs.Fitting.{trees_and_bounds_fit}
use Rattle.obs_claimed.proofs.PlanLengths.{placements_fit}
use Rattle.obs_claimed.proofs.laws.texts_fit.Goals as goal

pub returns : goal.returns
returns c = record { claims = trees_and_bounds_fit; placements = placements_fit }

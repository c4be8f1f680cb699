use Rattle.obs_claimed.proofs.PlanClaims.{placements_hold}
use Rattle.obs_claimed.proofs.laws.placements_hold.Goals as goal

pub returns : goal.returns
returns c = record { hold = placements_hold }

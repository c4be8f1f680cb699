use Rattle.obs_claimed.proofs.Bounds.{bounds_hold}
use Rattle.obs_claimed.proofs.laws.bounds_hold.Goals as goal

pub returns : goal.returns
returns c = record { hold = bounds_hold }

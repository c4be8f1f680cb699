use Rattle.obs_claimed.proofs.Trees.{trees_hold}
use Rattle.obs_claimed.proofs.laws.trees_hold.Goals as goal

pub returns : goal.returns
returns c = record { hold = trees_hold }

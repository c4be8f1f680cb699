use Rattle.obs_assign.proofs.Standing.{length-retained}
use Rattle.obs_assign.proofs.laws.retained_by_rank.Goals as goal

pub returns : goal.returns
returns c = record { rank = length-retained }

use Rattle.obs_matroid.proofs.Islands.{islands_partition}
use Rattle.obs_matroid.proofs.Raising.{BetweenIslandsRaises-holds}
use Rattle.obs_matroid.proofs.laws.islands.Goals as goal

pub returns : goal.returns
returns c = record { partition = islands_partition; raised = BetweenIslandsRaises-holds }

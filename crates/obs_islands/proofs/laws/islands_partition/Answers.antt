use Rattle.obs_islands.proofs.Firsts.{partition}
use Rattle.obs_islands.proofs.laws.islands_partition.Goals as goal

pub returns : goal.returns
returns c = record { partition = λ n ends touches v ok l. partition n ends touches ok v l }

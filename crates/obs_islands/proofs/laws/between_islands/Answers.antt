use Rattle.obs_islands.proofs.Between.{between_islands_raise}
use Rattle.obs_islands.proofs.laws.between_islands.Goals as goal

pub returns : goal.returns
returns c = record { raised = between_islands_raise }

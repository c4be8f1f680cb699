use Rattle.obs_placement.proofs.laws.layers_bound_the_cost.Goals as goal
use Rattle.obs_rankcut.proofs.Costs.{layers_bound, layers_bound_completing}

pub returns : goal.returns
returns c = record { bound = layers_bound; completing = layers_bound_completing }

use Rattle.obs_matroid.proofs.Placement.{layer_bound}
use Rattle.obs_matroid.proofs.laws.layer_bound.Goals as goal

pub returns : goal.returns
returns c = record { cost = layer_bound }

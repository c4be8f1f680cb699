use Rattle.obs_matroid.proofs.Bounds.{weak_bound}
use Rattle.obs_matroid.proofs.laws.weak_bound.Goals as goal

pub returns : goal.returns
returns c = record { bounded = weak_bound }

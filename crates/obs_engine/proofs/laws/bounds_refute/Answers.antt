use Rattle.obs_engine.proofs.Lawful.{bound_below_need, bound_most, bound_reached}
use Rattle.obs_engine.proofs.laws.bounds_refute.Goals as goal

pub returns-clause-below : goal.returns-clause-below
returns-clause-below c = bound_below_need

pub returns-clause-greatest : goal.returns-clause-greatest
returns-clause-greatest c = bound_reached

pub returns-clause-most : goal.returns-clause-most
returns-clause-most c = bound_most

use Rattle.obs_placement.proofs.Refuting.{bound_reached, bound_refutes}
use Rattle.obs_placement.proofs.laws.bound_refutes.Goals as goal

pub returns : goal.returns
returns c = record { reached = bound_reached; refutes = bound_refutes }

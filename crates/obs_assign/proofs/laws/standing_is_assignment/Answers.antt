use Rattle.obs_assign.proofs.Standing.{IsAssignmentAt-standing}
use Rattle.obs_assign.proofs.laws.standing_is_assignment.Goals as goal

pub returns : goal.returns
returns c = record { assignment = IsAssignmentAt-standing }

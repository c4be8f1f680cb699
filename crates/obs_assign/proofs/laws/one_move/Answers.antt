use Rattle.obs_assign.proofs.Free.{IsAssignmentAt-free}
use Rattle.obs_assign.proofs.laws.one_move.Goals as goal

pub returns : goal.returns
returns c = record { assignment = IsAssignmentAt-free }

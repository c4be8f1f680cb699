use Rattle.obs_matpower.proofs.OpeningLemmas.{OpeningsAreAssignments-holds}
use Rattle.obs_matpower.proofs.laws.openings_are_assignments.Goals as goal

pub returns : goal.returns
returns c = record { opens = OpeningsAreAssignments-holds }

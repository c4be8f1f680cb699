use Rattle.obs_worked.proofs.Assigned.{branch, cycle, meter, pairs, untouched}
use Rattle.obs_worked.proofs.answers.assignments.Goals as goal

pub returns : goal.returns
returns c = record { pairs = pairs; branch = branch; meter = meter; untouched = untouched; cycle = cycle }

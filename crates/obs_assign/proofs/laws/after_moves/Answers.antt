use Rattle.obs_assign.proofs.Afterwards.{moved-kept, path_taken}
use Rattle.obs_assign.proofs.laws.after_moves.Goals as goal

pub returns-clause-taken : goal.returns-clause-taken
returns-clause-taken c = λ a path x h i. path_taken a path h x i

pub returns-clause-kept : goal.returns-clause-kept
returns-clause-kept c = λ a path m other. moved-kept path a.slots m other

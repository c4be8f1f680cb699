use Rattle.std.proofs.Common.{refl}
use Rattle.obs_network.proofs.Edited.{merged_with_branch}
use Rattle.obs_network.proofs.laws.a_branch_keeps_buses.Goals as goal

pub returns-clause-buses : goal.returns-clause-buses
returns-clause-buses c = λ t at inservice. refl

pub returns-clause-merged : goal.returns-clause-merged
returns-clause-merged c = merged_with_branch

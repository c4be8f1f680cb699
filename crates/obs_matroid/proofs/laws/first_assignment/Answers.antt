use Rattle.obs_matroid.proofs.Computed.{first_of_is}
use Rattle.obs_matroid.proofs.Comparing.{first_unique}
use Rattle.obs_matroid.proofs.laws.first_assignment.Goals as goal

pub returns-clause-computed : goal.returns-clause-computed
returns-clause-computed c = λ g laws touch M d rising. first_of_is g laws touch rising M d

pub returns-clause-unique : goal.returns-clause-unique
returns-clause-unique c = first_unique

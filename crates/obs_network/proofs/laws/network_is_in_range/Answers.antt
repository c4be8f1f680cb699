use Rattle.std.proofs.Common.{refl}
use Rattle.obs_network.specs.Network.{network_of}
use Rattle.obs_network.proofs.Items.{meters-in_range, offered-in_range}
use Rattle.obs_network.proofs.OfCase.{case_branches-are}
use Rattle.obs_network.proofs.laws.network_is_in_range.Goals as goal

pub returns-clause-branches : goal.returns-clause-branches
returns-clause-branches c = case_branches-are

pub returns-clause-meters : goal.returns-clause-meters
returns-clause-meters c = λ t v. meters-in_range t v (network_of t).graph refl refl

pub returns-clause-offered : goal.returns-clause-offered
returns-clause-offered c = λ t v. offered-in_range t v (network_of t).graph refl refl

use Rattle.obs_matroid.proofs.Critical.{rho_same}
use Rattle.obs_matroid.proofs.Computed.{rho_of_is}
use Rattle.obs_matroid.proofs.laws.rho.Goals as goal

pub returns-clause-computed : goal.returns-clause-computed
returns-clause-computed c = rho_of_is

pub returns-clause-unique : goal.returns-clause-unique
returns-clause-unique c = rho_same

use Rattle.obs_meter.proofs.Assigned.{rho_at-is, rho_at-unique}
use Rattle.obs_meter.proofs.laws.greatest_length.Goals as goal

pub returns-clause-computed : goal.returns-clause-computed
returns-clause-computed c = rho_at-is

pub returns-clause-unique : goal.returns-clause-unique
returns-clause-unique c = rho_at-unique

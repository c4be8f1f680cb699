use Rattle.std.proofs.Common.{refl}
use Rattle.obs_meter.proofs.Assigned.{from_matroid, rho-from_matroid, rho-to_matroid, to_matroid}
use Rattle.obs_meter.proofs.laws.assignments_are_those_of_the_matroid.Goals as goal

pub returns-clause-assignment : goal.returns-clause-assignment
returns-clause-assignment c = λ n ends touches M A. (to_matroid n ends touches M A, from_matroid n ends touches M A)

pub returns-clause-rho : goal.returns-clause-rho
returns-clause-rho c = λ n ends touches M r. (rho-to_matroid n ends touches M r, rho-from_matroid n ends touches M r)

pub returns-clause-bound : goal.returns-clause-bound
returns-clause-bound c = λ n ends touches J M. refl

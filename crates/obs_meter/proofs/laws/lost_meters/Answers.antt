use Rattle.obs_meter.proofs.Lost.{assignment-left, assignment-lost, live_items-losing, rho-left, rho-lost}
use Rattle.obs_meter.proofs.laws.lost_meters.Goals as goal

pub returns-clause-live : goal.returns-clause-live
returns-clause-live c = λ ends lost touches. live_items-losing lost touches ends

pub returns-clause-assignments : goal.returns-clause-assignments
returns-clause-assignments c = λ ends lost touches M A. (assignment-lost lost touches ends M A, assignment-left lost touches ends M A)

pub returns-clause-rho : goal.returns-clause-rho
returns-clause-rho c = λ ends lost touches M r. (rho-lost lost touches ends M r, rho-left lost touches ends M r)

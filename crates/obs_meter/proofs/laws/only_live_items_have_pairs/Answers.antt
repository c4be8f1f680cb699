use Rattle.obs_meter.proofs.Assigned.{every-to_live, live-to_every, live_items-distinct, rho-every-to_live, rho-live-to_every}
use Rattle.obs_meter.proofs.laws.only_live_items_have_pairs.Goals as goal

pub returns-clause-different : goal.returns-clause-different
returns-clause-different c = live_items-distinct

pub returns-clause-assignment : goal.returns-clause-assignment
returns-clause-assignment c = λ ends touches A. (live-to_every ends touches A, every-to_live ends touches A)

pub returns-clause-rho : goal.returns-clause-rho
returns-clause-rho c = λ ends touches r. (rho-live-to_every ends touches r, rho-every-to_live ends touches r)

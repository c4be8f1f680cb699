use Rattle.obs_matroid.proofs.Pin.{pin_one, pin_impossible}
use Rattle.obs_matroid.proofs.laws.pin.Goals as goal

pub returns-clause-gives_up_one : goal.returns-clause-gives_up_one
returns-clause-gives_up_one c = pin_one

pub returns-clause-impossible : goal.returns-clause-impossible
returns-clause-impossible c = pin_impossible

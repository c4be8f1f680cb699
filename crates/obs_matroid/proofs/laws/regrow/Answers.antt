use Rattle.obs_matroid.proofs.Regrow.{regrow}
use Rattle.obs_matroid.proofs.laws.regrow.Goals as goal

pub returns : goal.returns
returns c = record { regrows = λ g laws touch M d frozen. regrow g laws touch M frozen d }

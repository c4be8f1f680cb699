use Rattle.obs_engine.proofs.Claimed.{answers_hold}
use Rattle.obs_engine.proofs.laws.answers_hold.Goals as goal

pub returns : goal.returns
returns c = record { hold = answers_hold }

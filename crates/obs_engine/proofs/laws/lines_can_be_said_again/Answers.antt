use Rattle.obs_engine.proofs.Staying.{CanBeSaidAgain-holds}
use Rattle.obs_engine.proofs.laws.lines_can_be_said_again.Goals as goal

pub returns : goal.returns
returns c = record { again = CanBeSaidAgain-holds }

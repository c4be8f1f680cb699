use Rattle.obs_engine.proofs.CountedIslands.{islands_are_counted}
use Rattle.obs_engine.proofs.laws.islands_are_counted_once.Goals as goal

pub returns : goal.returns
returns c = record { counted = islands_are_counted }

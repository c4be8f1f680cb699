use Rattle.obs_engine.proofs.Lawful.{rank_greatest}
use Rattle.obs_engine.proofs.laws.rank_is_greatest.Goals as goal

pub returns : goal.returns
returns c = record { greatest = rank_greatest }

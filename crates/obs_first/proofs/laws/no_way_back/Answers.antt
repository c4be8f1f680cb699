use Rattle.obs_first.proofs.Backwards.{no_way_critical}
use Rattle.obs_first.proofs.laws.no_way_back.Goals as goal

pub returns : goal.returns
returns c = record { critical = no_way_critical }

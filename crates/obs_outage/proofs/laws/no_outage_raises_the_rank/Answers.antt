use Rattle.obs_outage.proofs.InOutage.{rank_falls}
use Rattle.obs_outage.proofs.laws.no_outage_raises_the_rank.Goals as goal

pub returns : goal.returns
returns c = record { rank = rank_falls }

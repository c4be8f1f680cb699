use Rattle.obs_station.proofs.OtherMeters.{loss_rank}
use Rattle.obs_station.proofs.laws.losses_are_of_other_meters.Goals as goal

pub returns : goal.returns
returns c = record { rank = loss_rank }

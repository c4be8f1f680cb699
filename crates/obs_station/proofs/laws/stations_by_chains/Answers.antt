use Rattle.obs_station.proofs.Stationed.{by_chains}
use Rattle.obs_station.proofs.laws.stations_by_chains.Goals as goal

pub returns : goal.returns
returns c = record { station = by_chains }

use Rattle.obs_engine.proofs.LossesBorne.{stations_done, stations_else}
use Rattle.obs_engine.proofs.laws.status_of_stations.Goals as goal

pub returns : goal.returns
returns c = record { done = stations_done; short = stations_else }

use Rattle.obs_station.proofs.Stationed.{one_station, some_station}
use Rattle.obs_station.proofs.laws.each_live_meter_has_a_station.Goals as goal

pub returns-clause-some_station : goal.returns-clause-some_station
returns-clause-some_station c = some_station

pub returns-clause-one_station : goal.returns-clause-one_station
returns-clause-one_station c = one_station

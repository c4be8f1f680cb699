use Rattle.obs_station.proofs.membership.write_keys.Goals as goal

pub station_key-requires-clause-stations : goal.station_key-requires-clause-stations
station_key-requires-clause-stations c = c.requires.stations

pub station_key-requires-clause-count : goal.station_key-requires-clause-count
station_key-requires-clause-count c = c.requires.count

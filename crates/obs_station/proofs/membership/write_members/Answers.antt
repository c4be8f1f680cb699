use Rattle.obs_station.proofs.membership.write_members.Goals as goal

pub write_keys-requires-clause-stations : goal.write_keys-requires-clause-stations
write_keys-requires-clause-stations c = c.requires.stations

pub write_keys-requires-clause-count : goal.write_keys-requires-clause-count
write_keys-requires-clause-count c = c.requires.count

pub write_keys-requires-clause-one_each : goal.write_keys-requires-clause-one_each
write_keys-requires-clause-one_each c = c.requires.one_each

pub group-requires-clause-few : goal.group-requires-clause-few
group-requires-clause-few c = c.write_keys.ensures.few

pub returns-clause-keys : goal.returns-clause-keys
returns-clause-keys c = c.write_keys.ensures.keys

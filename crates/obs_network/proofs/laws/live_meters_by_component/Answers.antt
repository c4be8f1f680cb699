use Rattle.obs_network.proofs.Listed.{live_meters-rising, live_meters-touch, one_list, some_list}
use Rattle.obs_network.proofs.laws.live_meters_by_component.Goals as goal

pub returns-clause-exactly : goal.returns-clause-exactly
returns-clause-exactly c = live_meters-touch

pub returns-clause-rising : goal.returns-clause-rising
returns-clause-rising c = live_meters-rising

pub returns-clause-some_list : goal.returns-clause-some_list
returns-clause-some_list c = some_list

pub returns-clause-one_list : goal.returns-clause-one_list
returns-clause-one_list c = one_list

use Rattle.obs_engine.proofs.Lawful.{bounds_rise, lists_noncritical}
use Rattle.obs_engine.proofs.laws.bounds_list_the_meters_that_are_not_critical.Goals as goal

pub returns : goal.returns
returns c = record { lists = lists_noncritical; rising = bounds_rise }

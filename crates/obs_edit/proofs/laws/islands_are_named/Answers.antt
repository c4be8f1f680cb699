use Rattle.obs_edit.proofs.NamedIslands.{islands_are_named, islands_begin_with_buses, islands_tell_apart}
use Rattle.obs_edit.proofs.laws.islands_are_named.Goals as goal

pub returns-clause-named : goal.returns-clause-named
returns-clause-named c = islands_are_named

pub returns-clause-alike : goal.returns-clause-alike
returns-clause-alike c = islands_tell_apart

pub returns-clause-bus : goal.returns-clause-bus
returns-clause-bus c = islands_begin_with_buses

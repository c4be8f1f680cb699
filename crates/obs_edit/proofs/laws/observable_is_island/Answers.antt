use Rattle.obs_edit.proofs.OneIsland.{islands_lie_in_components, observable_is_island}
use Rattle.obs_edit.proofs.laws.observable_is_island.Goals as goal

pub returns-clause-in_component : goal.returns-clause-in_component
returns-clause-in_component c = islands_lie_in_components

pub returns-clause-island : goal.returns-clause-island
returns-clause-island c = observable_is_island

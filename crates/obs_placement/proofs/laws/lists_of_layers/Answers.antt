use Rattle.obs_placement.proofs.Growing.{lists_come_first, lists_grow}
use Rattle.obs_placement.proofs.laws.lists_of_layers.Goals as goal

pub returns : goal.returns
returns c = record { first = lists_come_first; grow = lists_grow }

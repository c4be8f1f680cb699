use Rattle.obs_placement.proofs.Costed.{layers_are_shown, layers_show_the_cost}
use Rattle.obs_placement.proofs.laws.layers_show_the_cost.Goals as goal

pub returns : goal.returns
returns c = record { cost = layers_show_the_cost; shown = layers_are_shown }

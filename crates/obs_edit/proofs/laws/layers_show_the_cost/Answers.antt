use Rattle.obs_edit.proofs.CheapestPlans.{layers_add_up, layers_are_bounds, layers_bound_costs}
use Rattle.obs_edit.proofs.laws.layers_show_the_cost.Goals as goal

pub returns : goal.returns
returns c = record { bounds = layers_are_bounds; least = layers_bound_costs; cost = layers_add_up }

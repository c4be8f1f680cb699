use Rattle.obs_placement.proofs.Positions.{cost_is, cost_least, positions_are}
use Rattle.obs_placement.proofs.laws.chosen_is_the_answer.Goals as goal

pub returns : goal.returns
returns c = record { positions = positions_are; cost = cost_is; least = cost_least }

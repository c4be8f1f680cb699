use Rattle.obs_placement.proofs.Lawful.{chosen_enough, none_cheaper_at}
use Rattle.obs_placement.proofs.laws.chosen_are_cheapest.Goals as goal

pub returns-clause-enough : goal.returns-clause-enough
returns-clause-enough c = chosen_enough

pub returns-clause-none_cheaper : goal.returns-clause-none_cheaper
returns-clause-none_cheaper c = none_cheaper_at

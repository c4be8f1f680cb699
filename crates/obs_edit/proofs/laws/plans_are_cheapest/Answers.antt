use Rattle.obs_edit.proofs.CheapestPlans.{plans_are_cheapest, plans_complete}
use Rattle.obs_edit.proofs.Needless.{observable_costs_nothing}
use Rattle.obs_edit.proofs.laws.plans_are_cheapest.Goals as goal

pub returns : goal.returns
returns c = record { complete = plans_complete; cheapest = plans_are_cheapest; observable = observable_costs_nothing }

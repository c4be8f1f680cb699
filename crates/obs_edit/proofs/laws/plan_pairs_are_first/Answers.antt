use Rattle.obs_edit.proofs.CheapestPlans.{plans_have_first_pairs}
use Rattle.obs_edit.proofs.PlanFirst.{plan_pairs_first}
use Rattle.obs_edit.proofs.laws.plan_pairs_are_first.Goals as goal

pub returns : goal.returns
returns c = record { first = plan_pairs_first; in_cases = plans_have_first_pairs }

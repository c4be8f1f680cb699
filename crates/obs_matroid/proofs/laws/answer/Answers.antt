use Rattle.obs_matroid.proofs.Answer.{answer_of_is, answer_unique, answer_completes, answer_below, answer_lacks, answer_cost}
use Rattle.obs_matroid.proofs.Cheapest.{answer_costs_least}
use Rattle.obs_matroid.proofs.laws.answer.Goals as goal

pub returns-clause-computed : goal.returns-clause-computed
returns-clause-computed c = answer_of_is

pub returns-clause-unique : goal.returns-clause-unique
returns-clause-unique c = answer_unique

pub returns-clause-completes : goal.returns-clause-completes
returns-clause-completes c = answer_completes

pub returns-clause-counts : goal.returns-clause-counts
returns-clause-counts c = answer_below

pub returns-clause-cost : goal.returns-clause-cost
returns-clause-cost c = answer_cost

pub returns-clause-cheapest : goal.returns-clause-cheapest
returns-clause-cheapest c = λ g laws touch price M es xs X r b n. answer_costs_least g laws touch price M es n xs X r b

pub returns-clause-lacks : goal.returns-clause-lacks
returns-clause-lacks c = answer_lacks

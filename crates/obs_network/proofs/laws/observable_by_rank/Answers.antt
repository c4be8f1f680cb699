use Rattle.obs_network.proofs.Observed.{most_pairs, observed_by_rho, observed_from_rho, rho_from_observed}
use Rattle.obs_network.proofs.laws.observable_by_rank.Goals as goal

pub returns-clause-at_most : goal.returns-clause-at_most
returns-clause-at_most c = most_pairs

pub returns-clause-rank : goal.returns-clause-rank
returns-clause-rank c = λ t v. (rho_from_observed t v, observed_from_rho t v)

pub returns-clause-computed : goal.returns-clause-computed
returns-clause-computed c = observed_by_rho

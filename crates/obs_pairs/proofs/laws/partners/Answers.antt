use Rattle.obs_pairs.proofs.Partnered.{newly_critical_at, partner_at-exactly}
use Rattle.obs_pairs.proofs.laws.partners.Goals as goal

pub returns-clause-computed : goal.returns-clause-computed
returns-clause-computed c = λ n ends touches m k ok. partner_at-exactly n ends touches ok m k

pub returns-clause-newly_critical : goal.returns-clause-newly_critical
returns-clause-newly_critical c = λ n ends touches M m k ok different i red. newly_critical_at n ends touches ok M different m k i red

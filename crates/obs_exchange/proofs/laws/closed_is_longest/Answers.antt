use Rattle.obs_exchange.proofs.Lawful.{closed_noncritical, closed_rho}
use Rattle.obs_exchange.proofs.laws.closed_is_longest.Goals as goal

pub returns-clause-longest : goal.returns-clause-longest
returns-clause-longest c = closed_rho

pub returns-clause-noncritical : goal.returns-clause-noncritical
returns-clause-noncritical c = closed_noncritical

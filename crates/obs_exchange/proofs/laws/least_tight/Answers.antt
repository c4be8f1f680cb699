use Rattle.obs_exchange.proofs.Lawful.{noncritical_in-holds, noncritical_tight, tight_holds}
use Rattle.obs_exchange.proofs.laws.least_tight.Goals as goal

pub returns-clause-computed : goal.returns-clause-computed
returns-clause-computed c = λ n ends touches M ok d. noncritical_in-holds n ends touches ok M d

pub returns-clause-tight : goal.returns-clause-tight
returns-clause-tight c = λ n ends touches M S ok d. noncritical_tight n ends touches ok M d S

pub returns-clause-least : goal.returns-clause-least
returns-clause-least c = λ n ends touches M J ok d. tight_holds n ends touches ok M d J

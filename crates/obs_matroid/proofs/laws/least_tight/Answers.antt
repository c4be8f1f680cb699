use Rattle.obs_matroid.proofs.Critical.{tight_marks, tight_outside}
use Rattle.obs_matroid.proofs.laws.least_tight.Goals as goal

pub returns-clause-tight : goal.returns-clause-tight
returns-clause-tight c = λ g laws touch M d S. tight_marks g laws touch M S d

pub returns-clause-least : goal.returns-clause-least
returns-clause-least c = λ g laws touch M d J. tight_outside g laws touch M J d

use Rattle.obs_matroid.proofs.Closed.{closed_count, least_not_frozen, IsClosed-union}
use Rattle.obs_matroid.proofs.Partners.{sources_together}
use Rattle.obs_matroid.proofs.Critical.{closed_tight}
use Rattle.obs_matroid.proofs.laws.closed_sets.Goals as goal

pub returns-clause-counts : goal.returns-clause-counts
returns-clause-counts c = closed_count

pub returns-clause-tight : goal.returns-clause-tight
returns-clause-tight c = λ g laws touch M d A S. closed_tight g laws touch M A S d

pub returns-clause-together : goal.returns-clause-together
returns-clause-together c = λ g laws touch M frozen A S T. IsClosed-union g laws touch frozen A M S T

pub returns-clause-no_frozen : goal.returns-clause-no_frozen
returns-clause-no_frozen c = least_not_frozen

pub returns-clause-sources : goal.returns-clause-sources
returns-clause-sources c = sources_together

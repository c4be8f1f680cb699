use Rattle.std.proofs.Common.{refl}
use Rattle.obs_matroid.proofs.Least.{grows_or_closes}
use Rattle.obs_matroid.proofs.Closed.{closed_adds_none, closed_longest}
use Rattle.obs_matroid.proofs.laws.search.Goals as goal

pub returns-clause-grows_or_closes : goal.returns-clause-grows_or_closes
returns-clause-grows_or_closes c = λ g laws touch M d frozen from A a has. grows_or_closes g laws touch M frozen from A d a has

pub returns-clause-adds_none : goal.returns-clause-adds_none
returns-clause-adds_none c = closed_adds_none

pub returns-clause-longest : goal.returns-clause-longest
returns-clause-longest c = λ g laws touch M frozen A B S a b has extends closed h. closed_longest g laws touch M frozen A B S a b has extends closed (λ m i. h m i refl)

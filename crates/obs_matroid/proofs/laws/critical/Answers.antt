use Rattle.obs_matroid.proofs.Critical.{marks_critical}
use Rattle.obs_matroid.proofs.Computed.{is_critical_is}
use Rattle.obs_matroid.proofs.Heredity.{critical_within}
use Rattle.obs_matroid.proofs.laws.critical.Goals as goal

pub returns-clause-computed : goal.returns-clause-computed
returns-clause-computed c = is_critical_is

pub returns-clause-outside_least_closed : goal.returns-clause-outside_least_closed
returns-clause-outside_least_closed c = λ g laws touch M d A S. marks_critical g laws touch M A S d

pub returns-clause-in_smaller : goal.returns-clause-in_smaller
returns-clause-in_smaller c = λ g laws touch M N d e h m. critical_within g laws touch M N m d e h

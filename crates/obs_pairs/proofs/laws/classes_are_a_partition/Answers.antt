use Rattle.obs_pairs.proofs.Partnered.{class_first, class_lone, classes_at, partners_at-both_ways, partners_at-together}
use Rattle.obs_pairs.proofs.laws.classes_are_a_partition.Goals as goal

pub returns-clause-both_ways : goal.returns-clause-both_ways
returns-clause-both_ways c = λ n ends touches M m k ok different p. partners_at-both_ways n ends touches ok M different m k p

pub returns-clause-together : goal.returns-clause-together
returns-clause-together c = λ n ends touches M m k x ok different p q apart. partners_at-together n ends touches ok M different m k x p q apart

pub returns-clause-classes : goal.returns-clause-classes
returns-clause-classes c = λ n ends touches m k ok. classes_at n ends touches ok m k

pub returns-clause-alone : goal.returns-clause-alone
returns-clause-alone c = λ n ends touches m ok h. class_lone n ends touches ok m h

pub returns-clause-named : goal.returns-clause-named
returns-clause-named c = λ n ends touches m ok. class_first n ends touches ok m

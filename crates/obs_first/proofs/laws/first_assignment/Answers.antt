use Rattle.obs_first.specs.First.{first_pairs}
use Rattle.obs_first.proofs.Lawful.{first-live, first_pairs-is, first_pairs-unique}
use Rattle.obs_first.proofs.laws.first_assignment.Goals as goal

pub returns-clause-first : goal.returns-clause-first
returns-clause-first c = first_pairs-is

pub returns-clause-of_live : goal.returns-clause-of_live
returns-clause-of_live c = λ n ends touches ok. first-live ends touches (first_pairs n ends touches) (first_pairs-is n ends touches ok)

pub returns-clause-unique : goal.returns-clause-unique
returns-clause-unique c = first_pairs-unique

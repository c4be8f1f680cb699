use Rattle.std.proofs.Common.{arith}
use Rattle.obs_network.proofs.FewLost.{alone, no_shorter, stays_observable}
use Rattle.obs_network.proofs.PartedNeeds.{both_live, found, listed_dead, other_dead, short_side}
use Rattle.obs_network.proofs.laws.an_outage_parts_a_component.Goals as goal

pub returns-clause-both : goal.returns-clause-both
returns-clause-both c = λ t v e k side p one other. omega (arith, both_live t v e k side p (found t v e k side p) one other)

pub returns-clause-listed : goal.returns-clause-listed
returns-clause-listed c = λ t v e k side p. listed_dead t v e k side p (found t v e k side p)

pub returns-clause-other : goal.returns-clause-other
returns-clause-other c = λ t v e k side p. other_dead t v e k side p (found t v e k side p)

pub returns-clause-size : goal.returns-clause-size
returns-clause-size c = λ t v e k side p. short_side t v e k side p (found t v e k side p)

pub returns-clause-rank : goal.returns-clause-rank
returns-clause-rank c = λ t v e k side p. no_shorter t v e k side p (found t v e k side p)

pub returns-clause-observable : goal.returns-clause-observable
returns-clause-observable c = λ t v e k side p. stays_observable t v e k side p (found t v e k side p)

pub returns-clause-alone : goal.returns-clause-alone
returns-clause-alone c = λ t v e k side p. alone t v e k side p (found t v e k side p)

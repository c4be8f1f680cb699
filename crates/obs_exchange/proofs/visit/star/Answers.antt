use Rattle.obs_exchange.proofs.Visiting.{AreStarred-set}
use Rattle.obs_exchange.proofs.visit.star.Goals as goal

pub returns-in-Some-clause-starred : goal.returns-in-Some-clause-starred
returns-in-Some-clause-starred c = λ walked all s.
    rw c.set_walked.ensures.walked (AreStarred-set c.args.over.now c.args.stars.now walked c.in-Some.h c.args.m s c.in-Some.ensures.front c.count.result c.count.ensures.few c.in-Some.ensures.low all)

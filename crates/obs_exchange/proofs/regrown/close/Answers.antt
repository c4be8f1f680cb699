use Rattle.obs_exchange.proofs.Longest.{Grown-never}
use Rattle.obs_exchange.proofs.Lengthening.{Closed-again}
use Rattle.obs_exchange.proofs.regrown.close.Goals as goal

pub returns-in-Grown-clause-same : goal.returns-in-Grown-clause-same
returns-in-Grown-clause-same g c = absurd (Grown-never c.args.g.now c.args.ms.now.touches c.args.a.now c.search.new.a c.in-Grown.field-0 c.requires.longest c.search.ensures.whole c.search.ensures.stands c.in-Grown.ensures.found)

pub returns-in-Grown-clause-closed : goal.returns-in-Grown-clause-closed
returns-in-Grown-clause-closed g c = absurd (Grown-never c.args.g.now c.args.ms.now.touches c.args.a.now c.search.new.a c.in-Grown.field-0 c.requires.longest c.search.ensures.whole c.search.ensures.stands c.in-Grown.ensures.found)

pub returns-in-Closed-clause-closed : goal.returns-in-Closed-clause-closed
returns-in-Closed-clause-closed g c = Closed-again c.args.g.now c.args.ms.now.touches c.args.a.now c.search.new.a c.search.new.work.reached c.in-Closed.ensures.found

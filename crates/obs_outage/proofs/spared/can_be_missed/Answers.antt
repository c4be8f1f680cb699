use Rattle.obs_outage.proofs.Needed.{needed_parted}
use Rattle.obs_outage.proofs.spared.can_be_missed.Goals as goal

pub returns-then-is_some-clause-needed : goal.returns-then-is_some-clause-needed
returns-then-is_some-clause-needed c = λ f.
    needed_parted c.args.pairs.now c.args.part.now.ends c.args.e c.positions.result c.walk.new.self.found c.positions.ensures.count (c.walk.ensures.parted f)

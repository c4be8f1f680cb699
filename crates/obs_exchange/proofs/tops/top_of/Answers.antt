use Rattle.std.proofs.Common.{◌∙◌}
use Rattle.obs_exchange.proofs.Classes.{Rising-next, Rising-start}
use Rattle.obs_exchange.proofs.tops.top_of.Goals as goal

pub loop-x-init : goal.loop-x-init
loop-x-init c = Rising-start c.args.over.now c.args.tops.now c.args.v c.requires.v c.requires.tops

pub loop-x-preserved : goal.loop-x-preserved
loop-x-preserved c = let l = c.loop-x in
    rw (c.lift.ensures.led, c.at-up.ensures.top, c.at-next.ensures.top)
    (Rising-next c.args.over.now c.args.tops.now l.tops c.args.v l.x l.invariant (λ h. c.loop-x-test.true (c.at.ensures.top ∙ h)))

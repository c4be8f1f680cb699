use Rattle.std.proofs.Common.{ap, ◌∙◌, List}
use Rattle.obs_meter.specs.declared.Touch.{Touch}
use Rattle.obs_meter.proofs.Lost.{losing-one}
use Rattle.obs_exchange.proofs.loss.lose_one.Goals as goal

pub returns-clause-left : goal.returns-clause-left
returns-clause-left c = c.set.ensures.set ∙ ap (λ (t : List Touch). record c.args.left.now { touches = t }) (losing-one c.args.left.now.touches c.args.m)

pub returns-clause-slots : goal.returns-clause-slots
returns-clause-slots c = c.drop_pair.ensures.dropped

pub returns-clause-turns : goal.returns-clause-turns
returns-clause-turns c = c.drop_pair.ensures.turns

pub returns-clause-whole : goal.returns-clause-whole
returns-clause-whole c = c.drop_pair.ensures.whole

pub returns-clause-same_room : goal.returns-clause-same_room
returns-clause-same_room c = c.drop_pair.ensures.same_room

use Rattle.std.proofs.Common.{subst}
use Rattle.obs_matroid.specs.Lists.{In}
use Rattle.obs_matroid.proofs.Contained.{In-get_or}
use Rattle.obs_outage.proofs.dead.is_one_of.Goals as goal

pub returns-then-b-v : goal.returns-then-b-v
returns-then-b-v c = record { one = λ t. subst (λ z. In z c.args.buses.now) c.if-b-v.true (In-get_or c.args.buses.now c.loop-b.b-index 0 c.loop-b-test.true) }

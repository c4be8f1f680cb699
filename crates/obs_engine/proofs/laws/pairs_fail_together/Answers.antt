use Rattle.obs_engine.proofs.FailTogether.{fail_together}
use Rattle.obs_engine.proofs.laws.pairs_fail_together.Goals as goal

pub returns : goal.returns
returns c = record { together = fail_together }

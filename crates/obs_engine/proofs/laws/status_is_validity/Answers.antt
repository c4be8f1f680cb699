use Rattle.obs_engine.proofs.Verified.{done_holds, short_fails}
use Rattle.obs_engine.proofs.laws.status_is_validity.Goals as goal

pub returns-clause-done : goal.returns-clause-done
returns-clause-done c = done_holds

pub returns-clause-short : goal.returns-clause-short
returns-clause-short c = short_fails

use Rattle.obs_engine.proofs.Lawful.{done_observed, short_unobserved}
use Rattle.obs_engine.proofs.laws.status_is_observability.Goals as goal

pub returns-clause-done : goal.returns-clause-done
returns-clause-done c = done_observed

pub returns-clause-short : goal.returns-clause-short
returns-clause-short c = short_unobserved

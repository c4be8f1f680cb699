use Rattle.obs_engine.proofs.Lawful.{word_observed, word_unobserved}
use Rattle.obs_engine.proofs.laws.verdict_is_observability.Goals as goal

pub returns-clause-observable : goal.returns-clause-observable
returns-clause-observable c = word_observed

pub returns-clause-short : goal.returns-clause-short
returns-clause-short c = word_unobserved

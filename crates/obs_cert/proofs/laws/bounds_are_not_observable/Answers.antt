use Rattle.obs_cert.proofs.ObservedLemmas.{bounds_are_not_observable}
use Rattle.obs_cert.proofs.laws.bounds_are_not_observable.Goals as goal

pub returns : goal.returns
returns c = record { short = bounds_are_not_observable }

use Rattle.obs_cert.proofs.ObservedLemmas.{trees_are_observable}
use Rattle.obs_cert.proofs.laws.trees_are_observable.Goals as goal

pub returns : goal.returns
returns c = record { observable = trees_are_observable }

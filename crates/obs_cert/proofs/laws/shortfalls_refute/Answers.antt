use Rattle.obs_cert.proofs.CompletingLemmas.{shortfalls_refute}
use Rattle.obs_cert.proofs.laws.shortfalls_refute.Goals as goal

pub returns : goal.returns
returns c = record { refuted = shortfalls_refute }

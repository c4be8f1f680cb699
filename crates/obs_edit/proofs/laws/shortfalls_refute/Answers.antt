use Rattle.obs_edit.proofs.CheapestPlans.{shortfalls_refute}
use Rattle.obs_edit.proofs.laws.shortfalls_refute.Goals as goal

pub returns : goal.returns
returns c = record { refuted = shortfalls_refute }

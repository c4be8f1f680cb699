use Rattle.std.specs.Prelude.{refl}
use Rattle.obs_worked.proofs.Computed.{computed}
use Rattle.obs_worked.proofs.answers.islands.Goals as goal

pub returns : goal.returns
unfolding computed
returns c = record { islands = (refl, refl, refl, refl); reference = refl; five = refl }

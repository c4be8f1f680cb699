use Rattle.std.specs.Prelude.{refl}
use Rattle.obs_worked.proofs.Computed.{computed}
use Rattle.obs_worked.proofs.sessions.edits.Goals as goal

pub returns : goal.returns
unfolding computed
returns c = record { switches = refl; losses = refl }

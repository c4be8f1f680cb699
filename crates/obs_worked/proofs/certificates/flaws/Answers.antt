use Rattle.std.specs.Prelude.{refl}
use Rattle.obs_worked.proofs.Computed.{computed}
use Rattle.obs_worked.proofs.certificates.flaws.Goals as goal

pub returns : goal.returns
unfolding computed
returns c = record { unknown_name = refl; not_component = refl; not_inside = refl; not_touched = refl; twice = refl; cycle = refl; wrong_length = refl; not_below = refl }

use Rattle.obs_placement.proofs.Refuting.{none_for_less}
use Rattle.obs_placement.proofs.laws.none_completes_for_less.Goals as goal

pub returns : goal.returns
returns c = record { least = none_for_less }

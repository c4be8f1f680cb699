use Rattle.obs_engine.proofs.Lawful.{shorts_rise, shown_short}
use Rattle.obs_engine.proofs.laws.short_components_are_unobservable.Goals as goal

pub returns : goal.returns
returns c = record { exactly = shown_short; rising = shorts_rise }

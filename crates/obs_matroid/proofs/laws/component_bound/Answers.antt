use Rattle.obs_matroid.proofs.Components.{component_tight, component_longest}
use Rattle.obs_matroid.proofs.laws.component_bound.Goals as goal

pub returns : goal.returns
returns c = record { tight = λ g laws touch kind of sum own M d A S a c h K. (component_tight g laws touch kind of sum own K M A S d a c h, component_longest g laws touch kind of sum own K M A S a c h) }

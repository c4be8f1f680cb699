use Rattle.obs_exchange.proofs.Lawful.{frozen_longest}
use Rattle.obs_exchange.proofs.laws.closed_with_frozen.Goals as goal

pub returns : goal.returns
returns c = record { none_longer = frozen_longest }

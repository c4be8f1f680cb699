use Rattle.obs_engine.proofs.Answering.{OrderIsForgotten-holds}
use Rattle.obs_engine.proofs.laws.the_order_of_edits_is_forgotten.Goals as goal

pub returns : goal.returns
returns c = record { forgotten = OrderIsForgotten-holds }

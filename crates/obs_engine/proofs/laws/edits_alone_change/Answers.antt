use Rattle.obs_engine.proofs.Answering.{EditsAloneChange-holds}
use Rattle.obs_engine.proofs.laws.edits_alone_change.Goals as goal

pub returns : goal.returns
returns c = record { change = EditsAloneChange-holds }

use Rattle.obs_engine.proofs.Answering.{EndedOrLast-holds}
use Rattle.obs_engine.proofs.laws.lines_end_or_are_last.Goals as goal

pub returns : goal.returns
returns c = record { lines = EndedOrLast-holds }

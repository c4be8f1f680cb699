use Rattle.obs_matpower.proofs.LawLemmas.{FileIsRead-holds}
use Rattle.obs_matpower.proofs.laws.file_is_read.Goals as goal

pub returns : goal.returns
returns c = record { file = FileIsRead-holds }

use Rattle.obs_ieee_cdf.proofs.LawLemmas.{FileIsRead-holds}
use Rattle.obs_ieee_cdf.proofs.laws.file_is_read.Goals as goal

pub returns : goal.returns
returns c = record { file = FileIsRead-holds }

use Rattle.obs_case_csv.proofs.TableLemmas.{SwitchingIsRead-holds, SwitchingIsReadWithin-holds}
use Rattle.obs_case_csv.proofs.laws.switching_is_read.Goals as goal

pub returns : goal.returns
returns c = record { exactly = SwitchingIsRead-holds; within = SwitchingIsReadWithin-holds }

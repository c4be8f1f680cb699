use Rattle.obs_case_csv.proofs.ExactLemmas.{ReadExactly-holds, ReadExactlyWithin-holds}
use Rattle.obs_case_csv.proofs.laws.read_exactly.Goals as goal

pub returns : goal.returns
returns c = record { exactly = ReadExactly-holds; within = ReadExactlyWithin-holds }

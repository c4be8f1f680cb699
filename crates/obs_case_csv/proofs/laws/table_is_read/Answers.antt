use Rattle.obs_case_csv.proofs.TableLemmas.{TableIsRead-holds}
use Rattle.obs_case_csv.proofs.laws.table_is_read.Goals as goal

pub returns : goal.returns
returns c = record { table = TableIsRead-holds }

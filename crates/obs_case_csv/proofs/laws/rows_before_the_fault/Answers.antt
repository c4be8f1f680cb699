use Rattle.obs_case_csv.proofs.BeforeLemmas.{RowsBeforeFault-holds, RowsBeforeSome-holds}
use Rattle.obs_case_csv.proofs.ReadLemmas.{OtherTablesStay-holds}
use Rattle.obs_case_csv.proofs.laws.rows_before_the_fault.Goals as goal

pub returns : goal.returns
returns c = record { others = OtherTablesStay-holds; before = RowsBeforeFault-holds; first_rows = RowsBeforeSome-holds }

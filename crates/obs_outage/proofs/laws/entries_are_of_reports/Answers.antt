use Rattle.obs_outage.proofs.Reported.{entry_needed, entry_rank, entry_row}
use Rattle.obs_outage.proofs.laws.entries_are_of_reports.Goals as goal

pub returns-clause-row : goal.returns-clause-row
returns-clause-row c = entry_row

pub returns-clause-rank : goal.returns-clause-rank
returns-clause-rank c = entry_rank

pub returns-clause-needed : goal.returns-clause-needed
returns-clause-needed c = entry_needed

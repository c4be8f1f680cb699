use Rattle.obs_matpower.proofs.WholeLemmas.{table_rows-are}
use Rattle.obs_matpower.proofs.laws.rows_are_of_lines.Goals as goal

pub returns : goal.returns
returns c = record { rows = table_rows-are }

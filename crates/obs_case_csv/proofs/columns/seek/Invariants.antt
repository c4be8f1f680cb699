use Rattle.csv.specs.Records.{fields_of}
use Rattle.obs_case_csv.proofs.SeekLemmas.{IsSought}
use Rattle.obs_case_csv.proofs.columns.seek.Given as goal

abbrev pub invariant-loop-i : goal.invariant-loop-i
invariant-loop-i l = IsSought (fields_of l.header) l.column l.i l.found l.twice l.place

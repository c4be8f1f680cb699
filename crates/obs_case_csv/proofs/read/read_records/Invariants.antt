use Rattle.std.proofs.Common.{◌-◌, List}
use Rattle.obs_case_csv.specs.Fields.{Record}
use Rattle.obs_case_csv.specs.Read.{most_records}
use Rattle.obs_case_csv.specs.inner.Records.{Gives}
use Rattle.obs_case_csv.proofs.ReadLemmas.{IsReading}
use Rattle.obs_case_csv.proofs.read.read_records.Given as goal

abbrev pub invariant-loop-number : goal.invariant-loop-number
invariant-loop-number l = record {
  unread : List Record;
  gives : Gives l.reader (most_records l.most - l.number) unread;
  reading : IsReading l.table l.bytes l.fn.case l.case l.places l.number unread;
}

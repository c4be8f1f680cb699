use Rattle.csv.specs.Records.{fields_of}
use Rattle.obs_case_csv.proofs.RecordLemmas.{reads_first, refusals}
use Rattle.obs_case_csv.proofs.records.read_record.Goals as goal

pub returns-clause-refused : goal.returns-clause-refused
returns-clause-refused c = refusals c.args.reader.now c.read_byte_record.new.self c.read_byte_record.result c.read_byte_record.ensures.why

pub returns-clause-row : goal.returns-clause-row
returns-clause-row c =
    let e = c.read_byte_record.ensures in
    reads_first c.args.reader.now c.read_byte_record.new.self c.read_byte_record.result (fields_of c.read_byte_record.new.row) e.reads e.ready e.flexible

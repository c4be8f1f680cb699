use Rattle.obs_case_csv.proofs.read.read_table.Goals as goal

pub read_records-requires-clause-gives : goal.read_records-requires-clause-gives
read_records-requires-clause-gives c = c.open-reader.ensures.gives c.args.case.now.most

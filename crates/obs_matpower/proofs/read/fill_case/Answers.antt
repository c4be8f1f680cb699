use Rattle.std.proofs.Common.{option_map}
use Rattle.std.proofs.lemmas.Result.{err_from_is_err_and}
use Rattle.obs_matpower.proofs.EndLemmas.{file_refused, tables_read, tables_refused}
use Rattle.obs_matpower.proofs.read.fill_case.Goals as goal

pub returns-in_err-add_file-clause-refused : goal.returns-in_err-add_file-clause-refused
returns-in_err-add_file-clause-refused c =
    let p = err_from_is_err_and c.from_residual.result c.from_residual.ensures.1 in
    rw p.1 (file_refused c.args.case.now.most c.args.matpower.now c.args.meters.now (option_map (λ bytes. bytes.now) c.args.candidates) c.add_file.new.case c.in_err-add_file.field-0.0 p.0 c.in_err-add_file.ensures.read p.2)

pub returns-in_err-add_tables-clause-refused : goal.returns-in_err-add_tables-clause-refused
returns-in_err-add_tables-clause-refused c =
    let p = err_from_is_err_and c.from_residual-in_err-add_tables.result c.from_residual-in_err-add_tables.ensures.1 in
    rw p.1 (tables_refused c.args.case.now.most c.args.matpower.now c.args.meters.now (option_map (λ bytes. bytes.now) c.args.candidates) c.add_file.new.case c.in_err-add_tables.field-0.0 p.0 c.in_ok-add_file.ensures.read c.in_err-add_tables.ensures.refused p.2)

pub returns-clause-read : goal.returns-clause-read
returns-clause-read c =
    tables_read c.args.case.now.most c.args.matpower.now c.args.meters.now (option_map (λ bytes. bytes.now) c.args.candidates) c.add_file.new.case c.add_tables.new.case c.in_ok-add_file.ensures.read c.in_ok-add_tables.ensures.read

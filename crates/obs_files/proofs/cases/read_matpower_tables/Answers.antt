use Rattle.obs_files.proofs.Contents.{mat_refused}
use Rattle.obs_files.proofs.cases.read_matpower_tables.Goals as goal

pub returns-in-Err-Mat-clause-read : goal.returns-in-Err-Mat-clause-read
returns-in-Err-Mat-clause-read c = mat_refused c.args.meters.now _ _ _ c.in-Err-Mat.fault _ c.in-Err-Mat.field-0-is c.in-Err-Mat.ensures.refused c.from.ensures

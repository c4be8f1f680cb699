use Rattle.obs_files.proofs.Contents.{case_not_taken}
use Rattle.obs_files.proofs.cases.take_case.Goals as goal

pub returns-in_err-contents-clause-stated : goal.returns-in_err-contents-clause-stated
returns-in_err-contents-clause-stated g c = λ file told.
    case_not_taken c.args.limits c.args.form file c.in_err-contents.field-0.0 c.from_residual.result c.from_residual.ensures.1 (c.in_err-contents.ensures.stated file told)

use Rattle.std.proofs.Common.{ap, sym, Result}
use Rattle.obs_repair.specs.declared.edit.Meant.{Meant}
use Rattle.obs_repair.specs.declared.edit.Refusal.{Refusal}
use Rattle.obs_engine.specs.Lines.{answer_to}
use Rattle.obs_engine.proofs.Asked.{appends_as}
use Rattle.obs_engine.proofs.line_answers.answer_content.Goals as goal

pub returns-in-Err-clause-appends : goal.returns-in-Err-clause-appends
returns-in-Err-clause-appends g c =
    let t = c.args.session.now.tables in
    appends_as (ap (λ (m : Result Meant Refusal). answer_to t m) (sym c.in-Err.ensures.refused)) (c.print_refusal.ensures.appends t)

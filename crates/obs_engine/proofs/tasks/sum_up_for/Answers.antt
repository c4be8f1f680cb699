use Rattle.std.proofs.Common.{Some, ap, sym, ◌∙◌}
use Rattle.obs_case.specs.Tables.{Tables}
use Rattle.obs_notice.specs.declared.summary.Summary.{Summary}
use Rattle.obs_engine.specs.declared.tasks.Task.{Task}
use Rattle.obs_engine.specs.Summaries.{summary_of}
use Rattle.obs_engine.specs.inner.Summaries.{task_summary}
use Rattle.obs_engine.proofs.tasks.sum_up_for.Goals as goal

pub returns-in-Ok : goal.returns-in-Ok
returns-in-Ok c =
    let is = c.in-Ok.ensures.summary ∙ ap (λ (t : Tables). summary_of t) c.present.ensures.case in
    record { summary = ap (λ (s : Summary). Some s) is ∙ ap (λ (task : Task). task_summary task c.args.session.now.tables) (sym c.in-Answer.is) }

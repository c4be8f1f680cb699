use Rattle.std.proofs.Common.{◌≡◌, ◌∙◌, ◌⊎◌, ap, subst}
use Rattle.obs_files.specs.declared.status.Status.{Status}
use Rattle.obs_files.specs.declared.status.Status.TheVariants.{WriteFault}
use Rattle.obs_engine.specs.Asks.{report_status}
use Rattle.obs_engine.specs.Stays.{line_reply}
use Rattle.obs_engine.proofs.Endings.{printed_either}
use Rattle.obs_engine.proofs.Replied.{replied_verdict, report_status-is}
use Rattle.obs_engine.proofs.stays.answer_one.Goals as goal

pub returns-clause-replied : goal.returns-clause-replied
returns-clause-replied g c =
    let reply = line_reply c.args.session.now.offered c.args.session.now.tables c.args.line.now in
    replied_verdict reply c.answer_counted-outcome.result c.verdict.result c.printed_status.result c.printed_status.ensures.status
    (c.verdict.ensures.status ∙ ap report_status c.answer_counted-outcome.ensures.tables) (report_status-is _) c.answer_counted-outcome.ensures.appends

pub returns-clause-statuses : goal.returns-clause-statuses
returns-clause-statuses g c =
    subst (λ (s : Status). (c.printed_status.result ≡ s) ⊎ (c.printed_status.result ≡ WriteFault)) c.verdict.ensures.status
    (printed_either c.answer_counted-outcome.result c.verdict.result c.printed_status.result c.printed_status.ensures.status)

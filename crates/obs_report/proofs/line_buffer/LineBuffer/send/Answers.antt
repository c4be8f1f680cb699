use Rattle.obs_report.proofs.Printing.{sent_printed}
use Rattle.obs_report.proofs.line_buffer.LineBuffer.send.Goals as goal

pub returns-in-Ok-clause-printed : goal.returns-in-Ok-clause-printed
returns-in-Ok-clause-printed g c =
    let sent = c.write_all-self-inside.ensures in
    rw (← c.self.view_is, c.in-Ok.is) (sent_printed c.in-Ok.field-0 sent.writes sent.cause sent.quiet (λ rest has. (sent.succeeds rest has, sent.room rest has)))

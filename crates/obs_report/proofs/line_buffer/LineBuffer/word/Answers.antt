use Rattle.obs_report.proofs.Printing.{then_printed}
use Rattle.obs_report.proofs.line_buffer.LineBuffer.word.Goals as goal

pub returns-else-first : goal.returns-else-first
returns-else-first g c = record { printed = rw c.if-first.false (then_printed c.print-else-first.ensures.printed c.print-else-first-2.ensures.printed) }

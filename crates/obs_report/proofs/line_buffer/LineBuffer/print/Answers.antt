use Rattle.obs_report.proofs.Printing.{then_printed}
use Rattle.obs_report.proofs.line_buffer.LineBuffer.print.Goals as goal

pub returns : goal.returns
returns g c = record { printed = then_printed c.make_room.ensures.printed c.store_or_send.ensures.printed }

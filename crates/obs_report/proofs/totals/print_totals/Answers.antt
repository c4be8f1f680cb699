use Rattle.obs_report.proofs.Printing.{then_printed, finished}
use Rattle.obs_report.proofs.totals.print_totals.Goals as goal

pub returns : goal.returns
returns g c =
    let last = then_printed c.print_total-4.ensures.printed c.print_closing.ensures.printed in
    let more = then_printed c.print_total-2.ensures.printed (then_printed c.print_total-3.ensures.printed last) in
    record { appends = finished c.new-lines.ensures.empty (then_printed c.print_total.ensures.printed more) c.finish.ensures.printed }

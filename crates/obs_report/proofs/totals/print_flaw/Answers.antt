use Rattle.obs_report.proofs.Printing.{finished}
use Rattle.obs_report.proofs.totals.print_flaw.Goals as goal

pub returns : goal.returns
returns g c =
    let line = rw (c.text.ensures.decimal, c.text-2.ensures.decimal) at c.line.ensures.printed in
    record { appends = finished c.new-lines.ensures.empty line c.finish.ensures.printed }

use Rattle.obs_report.proofs.Printing.{finished}
use Rattle.obs_report.proofs.totals.print_valid.Goals as goal

pub returns : goal.returns
returns g c = record { appends = finished c.new-lines.ensures.empty c.print_total.ensures.printed c.finish.ensures.printed }

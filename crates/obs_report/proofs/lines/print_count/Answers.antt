use Rattle.obs_report.proofs.Printing.{finished}
use Rattle.obs_report.proofs.lines.print_count.Goals as goal

pub returns : goal.returns
returns g c = record { appends = finished c.new-lines.ensures.empty c.print_count_line.ensures.printed c.finish.ensures.printed }

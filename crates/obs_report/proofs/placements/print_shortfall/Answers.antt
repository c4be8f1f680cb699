use Rattle.obs_report.proofs.Printing.{finished, then_printed}
use Rattle.obs_report.proofs.placements.print_shortfall.Goals as goal

pub returns : goal.returns
returns g c = record { appends = finished c.new-lines.ensures.empty (then_printed c.print_lack.ensures.printed c.print_list.ensures.printed) c.finish.ensures.printed }

use Rattle.obs_report.proofs.Printing.{finished, then_printed}
use Rattle.obs_report.proofs.placements.print_plan.Goals as goal

pub returns : goal.returns
returns g c =
    let lines = then_printed (then_printed (then_printed c.print_cost.ensures.printed c.print_chosen.ensures.printed) c.print_pairs.ensures.printed) c.print_layers.ensures.printed in
    record { appends = finished c.new-lines.ensures.empty lines c.finish.ensures.printed }

use Rattle.obs_report.specs.Lines.{last_line}
use Rattle.obs_report.proofs.Printing.{then_call, failed_call}
use Rattle.obs_engine.proofs.topology.print_bus_count.Goals as goal

pub returns-in-Ok : goal.returns-in-Ok
returns-in-Ok g c = record { appends = then_call c.in-Ok.ensures.appends c.print_last_line.ensures.appends }

pub returns-in-Err : goal.returns-in-Err
returns-in-Err g c = record { appends = failed_call last_line c.in-Err.ensures.appends }

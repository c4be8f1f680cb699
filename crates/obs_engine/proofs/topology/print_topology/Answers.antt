use Rattle.std.proofs.Common.{codes, ◌++◌}
use Rattle.obs_network.specs.Switched.{case_bus_count}
use Rattle.obs_report.specs.Lines.{count_line, last_line}
use Rattle.obs_report.proofs.Printing.{then_call, failed_call}
use Rattle.obs_engine.proofs.topology.print_topology.Goals as goal

pub returns-in-Ok : goal.returns-in-Ok
returns-in-Ok g c = record { appends = then_call c.in-Ok.ensures.appends (rw (c.count.ensures.count, c.requires.count) at c.print_bus_count.ensures.appends) }

pub returns-in-Err : goal.returns-in-Err
returns-in-Err g c = record { appends = failed_call (count_line (codes "buses") (case_bus_count c.args.case.now) ++ last_line) c.in-Err.ensures.appends }

use Rattle.std.proofs.Common.{◌≡◌, ◌++◌, ◌-◌, ℕ, List}
use Rattle.std.specs.List.{range_with_len}
use Rattle.obs_network.specs.Switched.{case_bus_count}
use Rattle.obs_report.specs.Islands.{island_lines, islands_text}
use Rattle.obs_report.specs.inner.Printed.{Prints}
use Rattle.obs_report.proofs.islands.print_islands.Given as goal

abbrev pub invariant-loop-bus : goal.invariant-loop-bus
invariant-loop-bus g l = (text : List ℕ)
    × Prints g.W.Sink.written g.W.Sink.faults g.W.Sink.has_room l.initial.output l.output l.initial.lines l.lines text
    × (text ++ island_lines l.case l.islands (range_with_len l.bus (case_bus_count l.case - l.bus)) ≡ islands_text l.case l.islands)

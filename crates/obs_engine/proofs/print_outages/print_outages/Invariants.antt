use Rattle.std.proofs.Common.{◌≡◌, ◌++◌, ℕ, List, drop}
use Rattle.std.specs.List.{flat_map}
use Rattle.obs_report.specs.inner.Printed.{Prints}
use Rattle.obs_engine.specs.OutageReply.{outage_line}
use Rattle.obs_engine.proofs.print_outages.print_outages.Given as goal

abbrev pub invariant-loop-k : goal.invariant-loop-k
invariant-loop-k g l = (text : List ℕ)
    × Prints g.W.Sink.written g.W.Sink.faults g.W.Sink.has_room l.initial.output l.output l.initial.lines l.lines text
    × (text ++ flat_map (outage_line l.case) (drop l.k l.entries) ≡ flat_map (outage_line l.case) l.entries)

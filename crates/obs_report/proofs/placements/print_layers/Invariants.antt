use Rattle.std.proofs.Common.{ℕ, List}
use Rattle.obs_report.specs.inner.Printed.{Prints}
use Rattle.obs_report.proofs.Slotted.{AreLeft}
use Rattle.obs_report.proofs.placements.print_layers.Given as goal

abbrev pub invariant-loop-k : goal.invariant-loop-k
invariant-loop-k g l = (text : List ℕ)
    × Prints g.W.Sink.written g.W.Sink.faults g.W.Sink.has_room l.initial.output l.output l.initial.lines l.lines text
    × AreLeft l.case l.inside l.layers l.k l.upto text

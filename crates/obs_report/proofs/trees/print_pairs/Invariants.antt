use Rattle.std.proofs.Common.{◌≡◌, ◌++◌, ℕ, List, drop}
use Rattle.std.specs.List.{flat_map}
use Rattle.obs_report.specs.inner.Printed.{Prints}
use Rattle.obs_report.proofs.OfPairs.{slot_lines}
use Rattle.obs_report.proofs.trees.print_pairs.Given as goal

abbrev pub invariant-loop-m : goal.invariant-loop-m
invariant-loop-m g l = (text : List ℕ)
    × Prints g.W.Sink.written g.W.Sink.faults g.W.Sink.has_room l.initial.output l.output l.initial.lines l.lines text
    × (text ++ flat_map (slot_lines l.case l.pairs) (drop l.m-index l.meters) ≡ flat_map (slot_lines l.case l.pairs) l.meters)

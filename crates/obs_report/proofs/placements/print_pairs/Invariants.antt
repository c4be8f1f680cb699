use Rattle.std.proofs.Common.{◌≡◌, ◌++◌, ℕ, List, drop}
use Rattle.std.specs.List.{flat_map}
use Rattle.obs_matroid.specs.inner.Slots.{pairs_from, pairs_of}
use Rattle.obs_report.specs.Items.{pair_line}
use Rattle.obs_report.specs.inner.Printed.{Prints}
use Rattle.obs_report.proofs.placements.print_pairs.Given as goal

abbrev pub invariant-loop-m : goal.invariant-loop-m
invariant-loop-m g l = (text : List ℕ)
    × Prints g.W.Sink.written g.W.Sink.faults g.W.Sink.has_room l.initial.output l.output l.initial.lines l.lines text
    × (text ++ flat_map (pair_line l.case) (pairs_from l.m (drop l.m l.pairs.slots)) ≡ flat_map (pair_line l.case) (pairs_of l.pairs.slots))

use Rattle.std.proofs.Common.{◌≡◌, ◌++◌, ◌-◌, ℕ, List, length}
use Rattle.std.specs.List.{range_with_len}
use Rattle.obs_report.specs.inner.Printed.{Prints}
use Rattle.obs_engine.specs.PairReply.{class_lines}
use Rattle.obs_engine.proofs.pair_reply.print_classes.Given as goal

abbrev pub invariant-loop-m : goal.invariant-loop-m
invariant-loop-m g l = (text : List ℕ)
    × Prints g.W.Sink.written g.W.Sink.faults g.W.Sink.has_room l.initial.output l.output l.initial.lines l.lines text
    × (text ++ class_lines l.case l.work.list (range_with_len l.m (length l.case.meters - l.m)) ≡ class_lines l.case l.work.list (range_with_len 0 (length l.case.meters)))

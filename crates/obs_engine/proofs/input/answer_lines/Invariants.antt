use Rattle.std.proofs.Common.{◌≡◌, ◌+◌, ◌-◌, length}
use Rattle.obs_engine.proofs.Going.{Going}
use Rattle.obs_engine.proofs.input.answer_lines.Given as goal

abbrev pub invariant-loop-taken : goal.invariant-loop-taken
invariant-loop-taken g l =
    (length l.piece ≡ 4096)
    × Going l.fn.most_bytes l.fn.session.offered l.fn.session.tables (g.S.Source.left l.fn.input) (g.S.Source.faults l.fn.input) (g.S.Source.steady l.fn.input) (g.W.Sink.written l.fn.output) (g.W.Sink.faults l.fn.output)
    (g.W.Sink.has_room l.fn.output) l.taken (g.S.Source.left l.input) (g.S.Source.faults l.input) (g.S.Source.steady l.input) (g.W.Sink.written l.output) (g.W.Sink.faults l.output)
    (g.W.Sink.has_room l.output) l.gather l.session.tables l.session.offered

abbrev pub decreases-loop-taken : goal.decreases-loop-taken
decreases-loop-taken g l = l.fn.most_bytes + 1 - l.taken

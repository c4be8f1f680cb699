use Rattle.std.proofs.Common.{◌≡◌, take}
use Rattle.obs_engine.proofs.Asked.{ArePrinted}
use Rattle.obs_engine.proofs.print_asks.print_blocks.Given as goal

abbrev pub invariant-loop-k : goal.invariant-loop-k
invariant-loop-k g l =
    (l.session.tables ≡ l.fn.session.tables)
    × (l.session.offered ≡ l.fn.session.offered)
    × ArePrinted l.fn.session.tables (g.W.Sink.written l.fn.output) (g.W.Sink.written l.output) (g.W.Sink.faults l.fn.output) (g.W.Sink.faults l.output) (g.W.Sink.has_room l.fn.output) (g.W.Sink.has_room l.output)
    (take l.k l.blocks)

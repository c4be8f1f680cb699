use Rattle.std.proofs.Common.{◌≡◌}
use Rattle.obs_engine.proofs.Asked.{AreClaimed}
use Rattle.obs_engine.proofs.print_claims.print_claims.Given as goal

abbrev pub invariant-loop-c : goal.invariant-loop-c
invariant-loop-c g l =
    (l.session.tables ≡ l.fn.session.tables)
    × (l.session.offered ≡ l.fn.session.offered)
    × AreClaimed l.trees l.bounds l.fn.session.tables (g.W.Sink.written l.fn.output) (g.W.Sink.written l.output) (g.W.Sink.faults l.fn.output) (g.W.Sink.faults l.output) (g.W.Sink.has_room l.fn.output) (g.W.Sink.has_room l.output) l.c

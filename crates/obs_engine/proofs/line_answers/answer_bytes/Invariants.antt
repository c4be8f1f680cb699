use Rattle.std.proofs.Common.{◌≡◌, List, take, ℕ}
use Rattle.obs_script.specs.inner.Gathered.{Holds}
use Rattle.obs_engine.proofs.Lined.{Fed}
use Rattle.obs_engine.proofs.line_answers.answer_bytes.Given as goal

abbrev pub invariant-loop-k : goal.invariant-loop-k
invariant-loop-k g l =
    (l.session.offered ≡ l.fn.session.offered)
    × ((line : List ℕ) → Holds l.fn.gather line
    → Fed l.fn.session.offered l.fn.session.tables line (take l.k l.bytes) (g.W.Sink.written l.fn.output) (g.W.Sink.written l.output) (g.W.Sink.faults l.fn.output) (g.W.Sink.faults l.output)
    (g.W.Sink.has_room l.fn.output) (g.W.Sink.has_room l.output) l.gather l.session.tables)

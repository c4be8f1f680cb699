use Rattle.std.proofs.Common.{◌≡◌, ◌++◌, ℕ, List, drop, map, true}
use Rattle.std.specs.Prelude.{◌==◌}
use Rattle.obs_report.specs.inner.Printed.{Prints}
use Rattle.obs_report.proofs.LineLemmas.{words_text}
use Rattle.obs_report.proofs.line_buffer.LineBuffer.line.Given as goal

-- the words so far are printed
abbrev pub invariant-loop-i : goal.invariant-loop-i
invariant-loop-i g l = (text : List ℕ)
    × Prints g.W.Sink.written g.W.Sink.faults g.W.Sink.has_room l.fn.output l.output l.fn.self l.self text
    × (text ++ words_text (l.i == 0) (drop l.i (map (λ word. word.now) l.words)) ≡ words_text true (map (λ word. word.now) l.words))

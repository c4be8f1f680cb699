use Rattle.std.proofs.Common.{Option, sym, ap, ◌∙◌}
use Rattle.obs_text.specs.Lines.{lines_of}
use Rattle.obs_cert.specs.inner.Walked.{said_line, said_lines}
use Rattle.obs_cert.specs.Words.{Line}
use Rattle.obs_cert.proofs.walk.next_line.Goals as goal

pub returns-in-None-clause-end : goal.returns-in-None-clause-end
returns-in-None-clause-end c = rw (sym c.lines-all.ensures.bytes) (ap said_lines c.in-None.ensures.steps.first.0)

pub returns-in-None-read_line-clause-end : goal.returns-in-None-read_line-clause-end
returns-in-None-read_line-clause-end c =
    rw (sym c.lines-all.ensures.bytes)
    (ap said_lines c.in-Some.ensures.steps.first ∙ ap (λ (o : Option Line). said_line o (said_lines (lines_of c.next.new.self))) (sym c.in-None-read_line.ensures.line))

pub returns-in-Some-read_line-clause-line : goal.returns-in-Some-read_line-clause-line
returns-in-Some-read_line-clause-line c =
    rw (sym c.lines-all.ensures.bytes, c.rest.ensures.rest)
    (ap said_lines c.in-Some.ensures.steps.first ∙ ap (λ (o : Option Line). said_line o (said_lines (lines_of c.next.new.self))) (sym c.in-Some-read_line.ensures.line))

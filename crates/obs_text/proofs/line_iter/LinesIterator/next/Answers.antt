use Rattle.std.proofs.Common.{◌≡◌, ◌∷◌, ◌≢◌, length, arith}
use Rattle.obs_text.specs.Lines.{lines_of}
use Rattle.obs_text.specs.inner.Lines.{after_line}
use Rattle.obs_text.proofs.LineLemmas.{lines_of-step, fewer_lines}
use Rattle.obs_text.proofs.line_iter.LinesIterator.next.Goals as goal

pub returns-clause-steps : goal.returns-clause-steps
returns-clause-steps c =
    let some : length c.self.inside.rest.now ≢ 0 = grind arith in
    let is = lines_of-step _ _ _ some c.split_line.ensures.line c.split_line.ensures.rest in
    let first : lines_of c.args.self.now ≡ c.split_line.result.0.now ∷ lines_of c.split_line.result.1.now = cc in
    let left : c.split_line.result.1.now ≡ after_line c.args.self.now = cc in
    record { first = first; left = left }

pub returns-clause-goes : goal.returns-clause-goes
returns-clause-goes c =
    let fewer = fewer_lines c.args.self.now c.split_line.result.0.now c.split_line.result.1.now (returns-clause-steps c).first in
    record { on = λ _. (tt, tt, fewer); keeps = tt; rests = λ _. tt }

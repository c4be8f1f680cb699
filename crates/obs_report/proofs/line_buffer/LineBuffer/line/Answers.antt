use Rattle.std.proofs.Common.{◌≡◌, ◌++◌, [], length, map, refl, sym, arith}
use Rattle.std.specs.Prelude.{◌==◌}
use Rattle.std.proofs.lemmas.List.{get_or-map, length-map}
use Rattle.obs_report.specs.inner.Lines.{word_text}
use Rattle.obs_report.proofs.LineLemmas.{line_is, word_more, word_none}
use Rattle.obs_report.proofs.Printing.{nothing_printed, then_line, then_printed}
use Rattle.obs_report.proofs.line_buffer.LineBuffer.line.Goals as goal

pub loop-i-init : goal.loop-i-init
loop-i-init g c = ([], nothing_printed c.args.self.now.outcome, refl)

pub loop-i-preserved : goal.loop-i-preserved
loop-i-preserved g c =
    let inv = c.loop-i.invariant in
    let words = map (λ word. word.now) c.args.words.now in
    let size : length words ≡ length c.args.words.now = length-map c.args.words.now (λ word. word.now) in (
      inv.0 ++ word_text (c.loop-i.i == 0) _,
      then_printed inv.1 c.word.ensures.printed,
      word_more words c.loop-i.i _ inv.0 _ (omega (arith, c.loop-i-test.true, size)) (sym (get_or-map (λ word. word.now) c.args.words.now c.loop-i.i _ [] c.loop-i-test.true)) inv.2,
    )

pub returns : goal.returns
returns g c =
    let inv = c.loop-i.invariant in
    let words = map (λ word. word.now) c.args.words.now in
    let size : length words ≡ length c.args.words.now = length-map c.args.words.now (λ word. word.now) in
    let done = word_none words c.loop-i.i inv.0 _ (omega (arith, c.loop-i-test.false, size)) inv.2 in
    record { printed = then_line (rw done at inv.1) c.print.ensures.printed (line_is words) }

use Rattle.std.proofs.Common.{◌≡◌, sym, ap, ◌∙◌, ◌++◌, ◌+◌, is_none, rules}
use Rattle.obs_matpower.specs.Rows.{line_rows}
use Rattle.obs_matpower.specs.inner.Rows.{first_code, rows_of}
use Rattle.obs_matpower.proofs.TextLemmas.{rows_of-first}
use Rattle.obs_matpower.proofs.row_start.rows.Goals as goal

pub returns : goal.returns
returns c = record {
  rows =
      let part = c.args.part.now in
      let ended = c.is_none-ended.result in
      let same : ended ≡ is_none part.end = search rules in
      ap (λ code. line_rows part.line code ++ rows_of ended (part.line + 1) c.next_line.result.1.now) c.next_line.ensures.code
      ∙ ap (λ rest. line_rows part.line (first_code ended part.text.now) ++ rows_of ended (part.line + 1) rest) c.next_line.ensures.rest
      ∙ sym (rows_of-first ended part.line part.text.now) ∙ ap (λ e. rows_of e part.line part.text.now) same;
}

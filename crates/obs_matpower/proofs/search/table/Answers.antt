use Rattle.std.proofs.Common.{◌≡◌, ◌+◌, length, take, sym, ap, ◌∙◌, arith}
use Rattle.std.proofs.lemmas.List.{length-take-le}
use Rattle.std.specs.List.{after_first, concat}
use Rattle.obs_text.specs.Lines.{ended_lines}
use Rattle.obs_matpower.specs.Lines.{is_opening, opens}
use Rattle.obs_matpower.specs.Table.{after_opening}
use Rattle.obs_matpower.specs.inner.Table.{until_closing}
use Rattle.obs_matpower.proofs.FoundLemmas.{after_few, text_closed, text_fits, text_missing, text_open}
use Rattle.obs_matpower.proofs.search.table.Goals as goal

pub returns-in_default-clause-text : goal.returns-in_default-clause-text
returns-in_default-clause-text c = sym (text_missing c.args.which c.args.bytes.now c.in_default.ensures.none)

pub find_line-requires-2 : goal.find_line-requires-2
find_line-requires-2 c = record {
  few =
      omega (arith, ap length c.cut_at.ensures.after, after_few (opens c.args.which) c.args.bytes.now c.in-Some.start.before.now c.in-Some.start.from.now c.in-Some.start.number c.in-Some.ensures.found, c.requires.few);
}

pub returns-in_default-find_line-clause-text : goal.returns-in_default-find_line-clause-text
returns-in_default-find_line-clause-text c =
    let here : c.cut_at.result.1.now ≡ after_opening c.args.which c.args.bytes.now = c.cut_at.ensures.after ∙ ap (after_first is_opening) c.in-Some.ensures.found.from in
    sym (text_open c.cut_at.result.1.now c.in_default-find_line.ensures.none) ∙ ap (λ after. concat (until_closing (ended_lines after))) here

pub slice_bounds-result-end-2 : goal.slice_bounds-result-end-2
slice_bounds-result-end-2 c =
    let last = c.in-Some-find_line.last in
    let fits = text_fits c.cut_at.result.1.now last.before.now last.from.now last.number c.in-Some-find_line.ensures.found in
    sym (length-take-le (length last.before.now + length c.cut_at-2.result.0.now) c.cut_at.result.1.now (omega (arith, ap length c.cut_at-2.ensures.before, fits)))

pub returns-clause-text : goal.returns-clause-text
returns-clause-text c =
    let last = c.in-Some-find_line.last in
    let after = c.cut_at.result.1.now in
    let here : after ≡ after_opening c.args.which c.args.bytes.now = c.cut_at.ensures.after ∙ ap (after_first is_opening) c.in-Some.ensures.found.from in
    ap (λ inside. take (length last.before.now + length inside) after) c.cut_at-2.ensures.before
    ∙ text_closed after last.before.now last.from.now last.number c.in-Some-find_line.ensures.found
    ∙ ap (λ a. concat (until_closing (ended_lines a))) here

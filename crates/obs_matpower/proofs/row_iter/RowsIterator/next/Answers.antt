use Rattle.std.proofs.Common.{◌≡◌, ◌<◌, [], length, sym, ap, ◌∙◌, arith, rules}
use Rattle.std.proofs.lemmas.List.{nil_from_length}
use Rattle.obs_matpower.proofs.RowSteps.{next_line_left, no_rows_left, row_left, row_passed}
use Rattle.obs_matpower.proofs.TextLemmas.{line_less}
use Rattle.obs_matpower.proofs.row_iter.RowsIterator.next.Goals as goal
use Rattle.obs_matpower.proofs.row_iter.RowsIterator.next.Goals.{then-is_empty, else-is_empty}

pub loop-code-smaller-then-is_empty-2 : goal.loop-code-smaller-then-is_empty-2
loop-code-smaller-then-is_empty-2 c =
    let self = c.loop-code.self in
    let empty : length self.code.now ≡ 0 = search rules in
    let some : 0 < length self.rest.now = elim c.if-is_empty.branch [ then-is_empty w ↦ search rules | else-is_empty w ↦ search rules ] in
    omega (arith, line_less self.ended self.rest.now some, ap length c.next_line.ensures.code, ap length c.next_line.ensures.rest)

pub loop-code-preserved-then-is_empty-2 : goal.loop-code-preserved-then-is_empty-2
loop-code-preserved-then-is_empty-2 c =
    let self = c.loop-code.self in
    let empty : self.code.now ≡ [] = nil_from_length self.code.now (search rules) in
    next_line_left self.ended self.line self.code.now self.rest.now c.next_line.result.0.now c.next_line.result.1.now empty c.next_line.ensures.code c.next_line.ensures.rest
    ∙ c.loop-code.invariant

pub returns-then-has_value-clause-steps : goal.returns-then-has_value-clause-steps
returns-then-has_value-clause-steps c =
    let self = c.loop-code.self in
    sym c.loop-code.invariant
    ∙ row_left self.ended self.line self.code.now self.rest.now c.cut_at.result.0.now c.cut_at.result.1.now c.cut_at.ensures.before c.cut_at.ensures.after (sym c.has_value.ensures.some ∙ c.if-has_value.true)

pub returns-then-has_value-clause-goes : goal.returns-then-has_value-clause-goes
returns-then-has_value-clause-goes c =
    let shorter = ap length (returns-then-has_value-clause-steps c) in
    search rules

pub loop-code-preserved : goal.loop-code-preserved
loop-code-preserved c =
    let self = c.loop-code.self in
    row_passed self.ended self.line self.code.now self.rest.now c.cut_at.result.0.now c.cut_at.result.1.now c.cut_at.ensures.before c.cut_at.ensures.after (sym c.has_value.ensures.some ∙ c.if-has_value.false)
    ∙ c.loop-code.invariant

pub returns-clause-steps : goal.returns-clause-steps
returns-clause-steps c =
    let self = c.loop-code.self in
    let both : (length self.code.now ≡ 0) × (length self.rest.now ≡ 0) = elim c.if-is_empty.branch [ then-is_empty w ↦ (search rules, search rules) | else-is_empty w ↦ (search rules, search rules) ] in
    let none = no_rows_left self.ended self.line self.code.now self.rest.now (nil_from_length self.code.now both.0) (nil_from_length self.rest.now both.1) in
    (sym c.loop-code.invariant ∙ none, none)

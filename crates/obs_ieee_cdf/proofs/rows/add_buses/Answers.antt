use Rattle.std.proofs.Common.{◌≡◌, ◌+◌, true, false, [], ◌∷◌, ◌++◌, length, sym, ap, ◌∙◌, subst, arith}
use Rattle.std.proofs.lemmas.Result.{err_from_is_err_and}
use Rattle.obs_text.specs.Lines.{lines_of}
use Rattle.obs_text.proofs.LineLaws.{length-lines_of}
use Rattle.obs_bus_branch.specs.Buses.{tables_of_rows}
use Rattle.obs_bus_branch.proofs.NumberLemmas.{AreBuses-none}
use Rattle.obs_bus_branch.proofs.RowsRead.{ReadSoFar, read_none, read_one}
use Rattle.obs_ieee_cdf.specs.inner.Reading.{AreBuses}
use Rattle.obs_ieee_cdf.specs.Rows.{numbered, read_bus}
use Rattle.obs_ieee_cdf.proofs.ReadLemmas.{numbered_next, read_bus-good, stops_here}
use Rattle.obs_ieee_cdf.proofs.rows.add_buses.Goals as goal
use Rattle.obs_ieee_cdf.proofs.rows.add_buses.Goals.{then-not-is_passed_over+in_ok-add_bus, else-not-is_passed_over}

pub loop-line-init : goal.loop-line-init
loop-line-init c =
    let here : c.into_iter-line-iterator.result ≡ c.args.section.now = cc in
    let all = numbered c.args.first (lines_of c.args.section.now) in (
      ap (λ left. c.args.first + length (lines_of left)) here,
      read_none (read_bus c.args.case.now.most) (λ buses. tables_of_rows c.args.case.now.most buses []) AreBuses all c.args.case.now (numbered c.args.first (lines_of c.into_iter-line-iterator.result)) AreBuses-none c.requires.empty
          (ap (λ left. numbered c.args.first (lines_of left)) here),
    )

pub overflow_add-at : goal.overflow_add-at
overflow_add-at c =
    omega (arith, c.loop-line.invariant.0, ap length c.in-Some.ensures.steps.first, length-lines_of c.args.section.now, c.requires.room)

pub loop-line-preserved : goal.loop-line-preserved
loop-line-preserved c =
    let most = c.args.case.now.most in
    let so_far = c.loop-line.invariant.1 in
    let all = numbered c.args.first (lines_of c.args.section.now) in
    let left = numbered c.loop-line.at (lines_of c.loop-line.line-iterator) in
    let rest = numbered (c.loop-line.at + 1) (lines_of c.next.new.self) in
    let next = numbered_next c.loop-line.at c.loop-line.line-iterator c.in-Some.line.now c.next.new.self c.in-Some.ensures.steps.first in (
      omega (arith, c.loop-line.invariant.0, ap length c.in-Some.ensures.steps.first),
      elim c.if-not-is_passed_over.branch [
        | then-not-is_passed_over+in_ok-add_bus w ↦
            read_one (read_bus most) (λ buses. tables_of_rows most buses []) AreBuses all c.loop-line.case left rest c.loop-line.at c.in-Some.line.now so_far
            (next false (sym c.is_passed_over.ensures.blank ∙ w.if-not-is_passed_over.true)) c.if-not-is_passed_over.case
            (read_bus-good most so_far.0 c.loop-line.at c.in-Some.line.now so_far.1.good)
            (rw w.case-is (w.in_ok-add_bus.ensures.read most so_far.0 so_far.1.good so_far.1.is_held))
        | else-not-is_passed_over w ↦
            subst (λ case. ReadSoFar (read_bus most) (λ buses. tables_of_rows most buses []) AreBuses all case rest) (sym w.case-is)
            (subst (ReadSoFar (read_bus most) (λ buses. tables_of_rows most buses []) AreBuses all c.loop-line.case)
            (next true (sym c.is_passed_over.ensures.blank ∙ w.if-not-is_passed_over.false)) so_far)
      ],
    )

pub returns-in_err-add_bus : goal.returns-in_err-add_bus
returns-in_err-add_bus c =
    let most = c.args.case.now.most in
    let p = err_from_is_err_and c.from_residual.result c.from_residual.ensures.1 in
    let so_far = c.loop-line.invariant.1 in
    let next = numbered_next c.loop-line.at c.loop-line.line-iterator c.in-Some.line.now c.next.new.self c.in-Some.ensures.steps.first in
    record {
      read = rw (p.1, p.2)
          (stops_here (read_bus most) (λ buses. tables_of_rows most buses []) AreBuses (numbered c.args.first (lines_of c.args.section.now)) c.loop-line.case (numbered c.loop-line.at (lines_of c.loop-line.line-iterator)) so_far
          c.loop-line.at c.in-Some.line.now (numbered (c.loop-line.at + 1) (lines_of c.next.new.self)) (next false (sym c.is_passed_over.ensures.blank ∙ c.if-not-is_passed_over.true))
          (λ bus. tables_of_rows most (so_far.0 ++ bus ∷ []) []) c.add_bus.new.case c.in_err-add_bus.field-0.0
          (c.in_err-add_bus.ensures.read most so_far.0 so_far.1.good so_far.1.is_held));
    }

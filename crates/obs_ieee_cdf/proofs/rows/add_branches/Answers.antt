use Rattle.std.proofs.Common.{◌+◌, [], ◌∷◌, ◌++◌, true, false, length, sym, ap, ◌∙◌, subst, arith}
use Rattle.std.proofs.lemmas.Result.{err_from_is_err_and}
use Rattle.obs_text.specs.Lines.{lines_of}
use Rattle.obs_text.proofs.LineLaws.{length-lines_of}
use Rattle.obs_bus_branch.specs.Buses.{tables_of_rows}
use Rattle.obs_bus_branch.specs.inner.Buses.{AreNamed}
use Rattle.obs_bus_branch.proofs.RowsRead.{ReadSoFar, read_one}
use Rattle.obs_ieee_cdf.specs.Rows.{numbered, read_branch}
use Rattle.obs_ieee_cdf.proofs.ReadLemmas.{all_read, numbered_next, read_branch-good, stops_here}
use Rattle.obs_ieee_cdf.proofs.rows.add_branches.Goals as goal
use Rattle.obs_ieee_cdf.proofs.rows.add_branches.Goals.{then-not-is_passed_over+in_ok-add_branch, else-not-is_passed_over}

pub overflow_add-at : goal.overflow_add-at
overflow_add-at c =
    omega (arith, c.loop-line.invariant.0, ap length c.in-Some.ensures.steps.first, length-lines_of c.args.section.now, c.requires.room)

pub loop-line-preserved : goal.loop-line-preserved
loop-line-preserved c = (
  omega (arith, c.loop-line.invariant.0, ap length c.in-Some.ensures.steps.first),
  λ most buses are is.
      let so_far = c.loop-line.invariant.1 most buses are is in
      let all = numbered c.args.first (lines_of c.args.section.now) in
      let left = numbered c.loop-line.at (lines_of c.loop-line.line-iterator) in
      let rest = numbered (c.loop-line.at + 1) (lines_of c.next.new.self) in
      let next = numbered_next c.loop-line.at c.loop-line.line-iterator c.in-Some.line.now c.next.new.self c.in-Some.ensures.steps.first in
      elim c.if-not-is_passed_over.branch [
        | then-not-is_passed_over+in_ok-add_branch w ↦
            read_one (read_branch most buses) (tables_of_rows most buses) (AreNamed 1) all c.loop-line.case left rest c.loop-line.at c.in-Some.line.now so_far
            (next false (sym c.is_passed_over.ensures.blank ∙ w.if-not-is_passed_over.true)) c.if-not-is_passed_over.case
            (read_branch-good most buses so_far.0 c.loop-line.at c.in-Some.line.now so_far.1.good)
            (rw w.case-is (w.in_ok-add_branch.ensures.read most buses so_far.0 are so_far.1.good so_far.1.is_held))
        | else-not-is_passed_over w ↦
            subst (λ case. ReadSoFar (read_branch most buses) (tables_of_rows most buses) (AreNamed 1) all case rest) (sym w.case-is)
            (subst (ReadSoFar (read_branch most buses) (tables_of_rows most buses) (AreNamed 1) all c.loop-line.case)
            (next true (sym c.is_passed_over.ensures.blank ∙ w.if-not-is_passed_over.false)) so_far)
      ],
)

pub returns-in_err-add_branch : goal.returns-in_err-add_branch
returns-in_err-add_branch c =
    let p = err_from_is_err_and c.from_residual.result c.from_residual.ensures.1 in
    let next = numbered_next c.loop-line.at c.loop-line.line-iterator c.in-Some.line.now c.next.new.self c.in-Some.ensures.steps.first in
    record {
      read = λ most buses are is.
          let so_far = c.loop-line.invariant.1 most buses are is in
          rw (p.1, p.2)
          (stops_here (read_branch most buses) (tables_of_rows most buses) (AreNamed 1) (numbered c.args.first (lines_of c.args.section.now)) c.loop-line.case (numbered c.loop-line.at (lines_of c.loop-line.line-iterator)) so_far
          c.loop-line.at c.in-Some.line.now (numbered (c.loop-line.at + 1) (lines_of c.next.new.self)) (next false (sym c.is_passed_over.ensures.blank ∙ c.if-not-is_passed_over.true))
          (λ branch. tables_of_rows most buses (so_far.0 ++ branch ∷ [])) c.add_branch.new.case c.in_err-add_branch.field-0.0
          (c.in_err-add_branch.ensures.read most buses so_far.0 are so_far.1.good so_far.1.is_held));
    }

pub returns : goal.returns
returns c = record {
  read = λ most buses are is.
      all_read (read_branch most buses) (tables_of_rows most buses) (AreNamed 1) (numbered c.args.first (lines_of c.args.section.now)) c.loop-line.case (numbered c.loop-line.at (lines_of c.loop-line.line-iterator))
      (c.loop-line.invariant.1 most buses are is) (ap (numbered c.loop-line.at) c.in-None.ensures.steps.first.0);
}

use Rattle.std.proofs.Common.{[], ◌∷◌, ◌++◌, ◌∙◌, ap, is_none}
use Rattle.std.proofs.lemmas.Result.{err_from_is_err_and}
use Rattle.obs_bus_branch.specs.inner.Buses.{AreNamed}
use Rattle.obs_bus_branch.specs.Rows.{at_end}
use Rattle.obs_bus_branch.proofs.RowsRead.{read_one}
use Rattle.obs_matpower.specs.inner.Left.{rows_left}
use Rattle.obs_matpower.specs.Read.{read_branch}
use Rattle.obs_matpower.specs.inner.Reading.{held_branches}
use Rattle.obs_matpower.specs.inner.Rows.{rows_of}
use Rattle.obs_matpower.proofs.RowReads.{all_read, read_branch-good, stops_here}
use Rattle.obs_matpower.proofs.add.add_branches.Goals as goal

pub loop-row-preserved : goal.loop-row-preserved
loop-row-preserved c = λ most buses are is flags.
    let part = c.args.part.now in
    let so_far = c.loop-row.invariant most buses are is flags in
    let row = c.in-Some.row in
    read_one (read_branch most buses) (held_branches most buses) (AreNamed 1) (rows_of (is_none part.end) part.line part.text.now) c.loop-row.case
    (rows_left c.loop-row.row-iterator) (rows_left c.next.new.self) row.line row.bytes.now so_far c.in-Some.ensures.steps c.add_branch.new.case
    (read_branch-good most buses so_far.0 row.line row.bytes.now so_far.1.good)
    (c.in_ok-add_branch.ensures.read most buses so_far.0 are so_far.1.good so_far.1.is_held flags)

pub returns-in_err-add_branch : goal.returns-in_err-add_branch
returns-in_err-add_branch c =
    let part = c.args.part.now in
    let row = c.in-Some.row in
    let p = err_from_is_err_and c.from_residual.result c.from_residual.ensures.1 in
    record {
      read = λ most buses are is flags.
          let so_far = c.loop-row.invariant most buses are is flags in
          rw (p.1, p.2)
          (stops_here (read_branch most buses) (held_branches most buses) (AreNamed 1) (is_none part.end) part.line part.text.now part.end c.loop-row.case (rows_left c.loop-row.row-iterator) so_far
          row.line row.bytes.now (rows_left c.next.new.self) c.in-Some.ensures.steps (λ branch. held_branches most buses (so_far.0 ++ branch ∷ [])) c.add_branch.new.case c.in_err-add_branch.field-0.0
          (c.in_err-add_branch.ensures.read most buses so_far.0 are so_far.1.good so_far.1.is_held flags));
    }

pub returns-in-Some-end : goal.returns-in-Some-end
returns-in-Some-end c =
    let part = c.args.part.now in
    record {
      read = λ most buses are is flags.
          let so_far = c.loop-row.invariant most buses are is flags in
          all_read (read_branch most buses) (held_branches most buses) (AreNamed 1) (is_none part.end) part.line part.text.now part.end c.loop-row.case (rows_left c.loop-row.row-iterator) so_far c.in-None.ensures.steps.0
          ∙ ap (λ end. at_end end so_far.0) c.in-Some-end.is;
    }

pub returns-in-None-end : goal.returns-in-None-end
returns-in-None-end c =
    let part = c.args.part.now in
    record {
      read = λ most buses are is flags.
          let so_far = c.loop-row.invariant most buses are is flags in (
            so_far.0,
            all_read (read_branch most buses) (held_branches most buses) (AreNamed 1) (is_none part.end) part.line part.text.now part.end c.loop-row.case (rows_left c.loop-row.row-iterator) so_far c.in-None.ensures.steps.0
                ∙ ap (λ end. at_end end so_far.0) c.in-None-end.is,
            so_far.1.is_held,
          );
    }

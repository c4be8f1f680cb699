use Rattle.std.proofs.Common.{[], ◌∷◌, ◌++◌, is_none, ap, ◌∙◌}
use Rattle.std.proofs.lemmas.Result.{err_from_is_err_and}
use Rattle.obs_case.specs.Tables.{no_rows_within}
use Rattle.obs_bus_branch.proofs.NumberLemmas.{AreBuses-none}
use Rattle.obs_bus_branch.proofs.RowsRead.{read_none, read_one}
use Rattle.obs_matpower.specs.inner.Left.{rows_left}
use Rattle.obs_matpower.specs.Read.{buses_of, read_bus}
use Rattle.obs_matpower.specs.inner.Reading.{AreBuses, held_buses}
use Rattle.obs_matpower.specs.inner.Rows.{rows_of}
use Rattle.obs_matpower.proofs.RowReads.{read_bus-good, stops_here}
use Rattle.obs_matpower.proofs.add.add_buses.Goals as goal

pub loop-row-init : goal.loop-row-init
loop-row-init c =
    let part = c.args.part.now in
    let most = c.args.case.now.most in
    read_none (read_bus most) (held_buses most) (λ rows. AreBuses (buses_of rows)) (rows_of (is_none part.end) part.line part.text.now) (c.args.case.now, c.args.isolated.now.items) (rows_left c.into_iter-row-iterator.result)
    AreBuses-none (ap (λ t. (t, c.args.isolated.now.items)) c.requires.empty ∙ ap (λ flags. (no_rows_within most, flags)) c.requires.none)
    (ap rows_left c.into_iter-row-iterator.ensures.into_iter_gives ∙ c.rows-row-items.ensures.rows)

pub loop-row-preserved : goal.loop-row-preserved
loop-row-preserved c =
    let part = c.args.part.now in
    let most = c.args.case.now.most in
    let so_far = c.loop-row.invariant in
    let row = c.in-Some.row in
    read_one (read_bus most) (held_buses most) (λ rows. AreBuses (buses_of rows)) (rows_of (is_none part.end) part.line part.text.now) (c.loop-row.case, c.loop-row.isolated.items)
    (rows_left c.loop-row.row-iterator) (rows_left c.next.new.self) row.line row.bytes.now so_far c.in-Some.ensures.steps (c.add_bus.new.case, c.add_bus.new.isolated.items)
    (read_bus-good most so_far.0 row.line row.bytes.now so_far.1.good)
    (c.in_ok-add_bus.ensures.read most so_far.0 so_far.1.good (ap (λ held. held.0) so_far.1.is_held) (ap (λ held. held.1) so_far.1.is_held))

pub returns-in_err-add_bus : goal.returns-in_err-add_bus
returns-in_err-add_bus c =
    let part = c.args.part.now in
    let most = c.args.case.now.most in
    let so_far = c.loop-row.invariant in
    let row = c.in-Some.row in
    let p = err_from_is_err_and c.from_residual.result c.from_residual.ensures.1 in
    record {
      read = rw (p.1, p.2)
          (stops_here (read_bus most) (held_buses most) (λ rows. AreBuses (buses_of rows)) (is_none part.end) part.line part.text.now part.end (c.loop-row.case, c.loop-row.isolated.items) (rows_left c.loop-row.row-iterator) so_far
          row.line row.bytes.now (rows_left c.next.new.self) c.in-Some.ensures.steps (λ bus. held_buses most (so_far.0 ++ bus ∷ [])) (c.add_bus.new.case, c.add_bus.new.isolated.items) c.in_err-add_bus.field-0.0
          (c.in_err-add_bus.ensures.read most so_far.0 so_far.1.good (ap (λ held. held.0) so_far.1.is_held) (ap (λ held. held.1) so_far.1.is_held)));
    }

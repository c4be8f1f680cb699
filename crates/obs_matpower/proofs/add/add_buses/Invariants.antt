use Rattle.std.proofs.Common.{is_none}
use Rattle.obs_bus_branch.proofs.RowsRead.{ReadSoFar}
use Rattle.obs_matpower.specs.inner.Left.{rows_left}
use Rattle.obs_matpower.specs.Read.{buses_of, read_bus}
use Rattle.obs_matpower.specs.inner.Reading.{AreBuses, held_buses}
use Rattle.obs_matpower.specs.inner.Rows.{rows_of}
use Rattle.obs_matpower.proofs.add.add_buses.Given as goal

abbrev pub invariant-loop-row : goal.invariant-loop-row
invariant-loop-row l =
    ReadSoFar (read_bus l.initial.case.most) (held_buses l.initial.case.most) (λ rows. AreBuses (buses_of rows)) (rows_of (is_none l.part.end) l.part.line l.part.text.now) (l.case, l.isolated.items) (rows_left l.row-iterator)

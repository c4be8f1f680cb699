use Rattle.std.proofs.Common.{◌≡◌, ℕ, List, [], is_none}
use Rattle.obs_bus_branch.specs.inner.Buses.{AreNamed}
use Rattle.obs_bus_branch.proofs.RowsRead.{ReadSoFar}
use Rattle.obs_matpower.specs.inner.Left.{rows_left}
use Rattle.obs_matpower.specs.Read.{BusRow, buses_of, isolated_of, read_branch}
use Rattle.obs_matpower.specs.inner.Reading.{AreBuses, held_branches}
use Rattle.obs_matpower.specs.inner.Rows.{rows_of}
use Rattle.obs_matpower.proofs.add.add_branches.Given as goal

abbrev pub invariant-loop-row : goal.invariant-loop-row
invariant-loop-row l =
    (most : ℕ) (buses : List BusRow) → AreBuses (buses_of buses) → l.initial.case ≡ held_branches most buses [] → l.isolated ≡ isolated_of buses →
    ReadSoFar (read_branch most buses) (held_branches most buses) (AreNamed 1) (rows_of (is_none l.part.end) l.part.line l.part.text.now) l.case (rows_left l.row-iterator)

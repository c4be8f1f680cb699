use Rattle.std.proofs.Common.{◌≡◌, ◌+◌, [], length}
use Rattle.obs_text.specs.Lines.{lines_of}
use Rattle.obs_bus_branch.specs.Buses.{tables_of_rows}
use Rattle.obs_bus_branch.proofs.RowsRead.{ReadSoFar}
use Rattle.obs_ieee_cdf.specs.inner.Reading.{AreBuses}
use Rattle.obs_ieee_cdf.specs.Rows.{numbered, read_bus}
use Rattle.obs_ieee_cdf.proofs.rows.add_buses.Given as goal

abbrev pub invariant-loop-line : goal.invariant-loop-line
invariant-loop-line l =
    (l.at + length (lines_of l.line-iterator) ≡ l.first + length (lines_of l.section))
    × ReadSoFar (read_bus l.initial.case.most) (λ buses. tables_of_rows l.initial.case.most buses []) AreBuses (numbered l.first (lines_of l.section)) l.case (numbered l.at (lines_of l.line-iterator))

use Rattle.std.proofs.Common.{◌≡◌, ℕ, ◌+◌, List, [], length}
use Rattle.obs_text.specs.Lines.{lines_of}
use Rattle.obs_bus_branch.specs.Buses.{Bus, tables_of_rows}
use Rattle.obs_bus_branch.specs.inner.Buses.{AreNamed}
use Rattle.obs_bus_branch.proofs.RowsRead.{ReadSoFar}
use Rattle.obs_ieee_cdf.specs.inner.Reading.{AreBuses}
use Rattle.obs_ieee_cdf.specs.Rows.{numbered, read_branch}
use Rattle.obs_ieee_cdf.proofs.rows.add_branches.Given as goal

abbrev pub invariant-loop-line : goal.invariant-loop-line
invariant-loop-line l =
    (l.at + length (lines_of l.line-iterator) ≡ l.first + length (lines_of l.section))
    × ((most : ℕ) (buses : List Bus) → AreBuses buses → l.initial.case ≡ tables_of_rows most buses [] →
    ReadSoFar (read_branch most buses) (tables_of_rows most buses) (AreNamed 1) (numbered l.first (lines_of l.section)) l.case (numbered l.at (lines_of l.line-iterator)))

-- What the iterators over rows and values have left to give.
use Rattle.std.specs.Prelude.{ℕ, ◌+◌, List, ◌++◌}
use Rattle.obs_matpower.specs.declared.row_iter.MatRow.{MatRow}
use Rattle.obs_matpower.specs.declared.row_iter.Rows.{Rows}
use Rattle.obs_matpower.specs.declared.value_iter.Values.{Values}
use Rattle.obs_matpower.specs.Rows.{line_rows, values_of}
use Rattle.obs_matpower.specs.inner.Rows.{rows_of}

-- the values that are left
abbrev pub values_left : Values → List (List ℕ)
values_left it = values_of it.rest.now

-- a row: the number of its line, and its bytes
abbrev pub row_of : MatRow → ℕ × List ℕ
row_of row = (row.line, row.bytes.now)

-- the rows that are left: those of the rest of a line, and those of the lines after it
abbrev pub rows_left : Rows → List (ℕ × List ℕ)
rows_left it = line_rows it.line it.code.now ++ rows_of it.ended (it.line + 1) it.rest.now

-- The rows of a table, said of the whole lines of a file.
use Rattle.std.specs.Prelude.{ℕ, ◌+◌, List, [], ◌∷◌, ◌++◌, if◌then◌else◌}
use Rattle.std.specs.List.{before_first}
use Rattle.obs_text.specs.Lines.{content, ended_lines}
use Rattle.obs_matpower.specs.declared.part.MatTable.{MatTable}
use Rattle.obs_matpower.specs.Lines.{closes, is_closing, without_comment}
use Rattle.obs_matpower.specs.Rows.{line_rows}
use Rattle.obs_matpower.specs.Table.{after_opening, line_of}

-- lines without their comments, up to the first `]`
abbrev pub table_lines : List (List ℕ) → List (List ℕ)
table_lines [] = []
table_lines (line ∷ lines) =
    if closes line then before_first is_closing line ∷ [] else without_comment (content line) ∷ table_lines lines

-- the rows of lines, of which the first has this number
unfoldable pub numbered_rows : ℕ → List (List ℕ) → List (ℕ × List ℕ)
numbered_rows at [] = []
numbered_rows at (line ∷ lines) = line_rows at line ++ numbered_rows (at + 1) lines

-- the rows of a table of a file with the numbers of their lines: those of all that follows its `[`, line by line, up to the next `]`
abbrev pub table_rows : MatTable → List ℕ → List (ℕ × List ℕ)
table_rows table bytes = numbered_rows (line_of table bytes) (table_lines (ended_lines (after_opening table bytes)))

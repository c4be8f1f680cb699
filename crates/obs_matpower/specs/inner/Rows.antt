-- The rows of the text of one table.
use Rattle.std.specs.Prelude.{ℕ, ◌+◌, ◌&&◌, Bool, not, List, [], ◌∷◌, ◌++◌, if◌then◌else◌}
use Rattle.std.specs.List.{before_first, list_any}
use Rattle.std.specs.Str.Lines.{strip_carriage_return}
use Rattle.obs_text.specs.Lines.{content, ended_lines, is_feed}
use Rattle.obs_matpower.specs.Lines.{without_comment}
use Rattle.obs_matpower.specs.Rows.{line_rows}

-- a line of a text without its comment. The last line of a table that is ended goes on in the file with `]`, so that a carriage
-- return at its end is not at the end of a line
abbrev pub code_of : Bool → List ℕ → List ℕ
code_of ended line = without_comment (if ended && not (list_any is_feed line) then line else content line)

-- the rows of lines, of which the first has this number
unfoldable pub rows_from : Bool → ℕ → List (List ℕ) → List (ℕ × List ℕ)
rows_from ended at [] = []
rows_from ended at (line ∷ lines) = line_rows at (code_of ended line) ++ rows_from ended (at + 1) lines

-- the rows of a table's text, whose first line has this number
abbrev pub rows_of : Bool → ℕ → List ℕ → List (ℕ × List ℕ)
rows_of ended at text = rows_from ended at (ended_lines text)

-- the first line of a text without its comment, or nothing
abbrev pub first_code : Bool → List ℕ → List ℕ
first_code ended text =
    without_comment (if ended && not (list_any is_feed text) then text else strip_carriage_return (before_first is_feed text))

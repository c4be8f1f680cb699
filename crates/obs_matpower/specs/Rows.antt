-- The rows of a table's text, and their values.
use Rattle.std.specs.Prelude.{ℕ, ◌==◌, ◌||◌, Bool, not, nat_lt, List, length, map, filter}
use Rattle.std.specs.List.{list_any, slice_split}
use Rattle.obs_matpower.specs.Lines.{is_gap, is_semicolon}

-- a blank, a tab or a comma, which separate values
abbrev pub is_separator : ℕ → Bool
is_separator byte = is_gap byte || byte == 0x2C

-- there are bytes
abbrev pub is_some_bytes : List ℕ → Bool
is_some_bytes bytes = nat_lt 0 (length bytes)

-- the values of a row
unfoldable pub values_of : List ℕ → List (List ℕ)
values_of row = filter is_some_bytes (slice_split is_separator row)

-- whether a row has a value
abbrev pub has_value : List ℕ → Bool
has_value row = list_any (λ byte. not (is_separator byte)) row

-- the rows of one line without its comment, with the number of the line
unfoldable pub line_rows : ℕ → List ℕ → List (ℕ × List ℕ)
line_rows at code = map (λ row. (at, row)) (filter has_value (slice_split is_semicolon code))

-- The fields of bus lines and branch lines.
use Rattle.std.specs.Prelude.{ℕ, ◌||◌, Bool, true, false, nat_le, List, length, codes, Option, None, Some, if◌then◌else◌}
use Rattle.std.specs.List.{list_all}
use Rattle.std.specs.Str.{bytes_eq}
use Rattle.obs_text.specs.Columns.{bare_of, columns_of, is_blank}
use Rattle.obs_text.specs.Numbers.{whole_of}

-- columns without the blanks at both ends
abbrev pub field : List ℕ → ℕ → ℕ → List ℕ
field line from to = bare_of (columns_of line from to)

-- the fields of a bus line: its number and its type
abbrev pub bus_field : List ℕ → List ℕ
bus_field line = field line 1 4

abbrev pub type_field : List ℕ → List ℕ
type_field line = field line 25 26

-- the fields of a branch line: its tap bus and its Z bus
abbrev pub tap_field : List ℕ → List ℕ
tap_field line = field line 1 4

abbrev pub z_field : List ℕ → List ℕ
z_field line = field line 6 9

-- a line that is passed over inside a section
abbrev pub is_blank_line : List ℕ → Bool
is_blank_line line = list_all is_blank line

-- the number of a bus: 1 to 4 digits
abbrev pub number_of : List ℕ → Option ℕ
number_of digits = if nat_le (length digits) 4 then whole_of digits else None

-- a type is 0 or 1, or 2 or 3 for a bus with a source
abbrev pub source_of : List ℕ → Option Bool
source_of kind =
    if bytes_eq kind (codes "0") || bytes_eq kind (codes "1") then Some false
    else if bytes_eq kind (codes "2") || bytes_eq kind (codes "3") then Some true
    else None

-- Parts of a line.
use Rattle.std.specs.Prelude.{ℕ, ◌-◌, ◌==◌, Bool, List, length, take, drop}
use Rattle.std.specs.List.{prefix_len, suffix_len, slice_range}

-- the bytes from one column to another, counted from 1, as far as the line has them
abbrev pub columns_of : List ℕ → ℕ → ℕ → List ℕ
columns_of line from to = slice_range line (from - 1) to

abbrev pub is_blank : ℕ → Bool
is_blank byte = byte == 0x20

-- the bytes from the first that is no blank on
abbrev pub without_first_blanks : List ℕ → List ℕ
without_first_blanks bytes = drop (prefix_len is_blank bytes) bytes

-- the bytes up to the last that is no blank
abbrev pub without_last_blanks : List ℕ → List ℕ
without_last_blanks bytes = take (length bytes - suffix_len is_blank bytes) bytes

-- the bytes without the blanks at both ends
abbrev pub bare_of : List ℕ → List ℕ
bare_of bytes = without_last_blanks (without_first_blanks bytes)

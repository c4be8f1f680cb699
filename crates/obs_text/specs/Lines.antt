-- The lines of bytes.
use Rattle.std.specs.Prelude.{ℕ, ◌==◌, Bool, List, [], ◌∷◌, map, if◌then◌else◌}
use Rattle.std.specs.List.{before_first, onto_first}
use Rattle.std.specs.Str.Lines.{strip_carriage_return}

-- a line feed, with which a line ends
abbrev pub is_feed : ℕ → Bool
is_feed byte = byte == 0x0A

-- the lines with their ends: each goes on up to and with its line feed, the last one as far as the bytes go
abbrev pub ended_lines : List ℕ → List (List ℕ)
ended_lines [] = []
ended_lines (byte ∷ bytes) = if is_feed byte then (byte ∷ []) ∷ ended_lines bytes else onto_first byte (ended_lines bytes)

-- a line's content: what stands before its line feed, without one last carriage return
abbrev pub content : List ℕ → List ℕ
content line = strip_carriage_return (before_first is_feed line)

-- the lines: a last line feed starts no further line, and no bytes have no line
abbrev pub lines_of : List ℕ → List (List ℕ)
lines_of bytes = map content (ended_lines bytes)

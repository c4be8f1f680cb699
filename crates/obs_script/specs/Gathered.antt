-- A line that is put together byte by byte.
use Rattle.std.specs.Prelude.{ℕ, ◌==◌, Bool, true, List, [], ◌∷◌}
use Rattle.std.specs.Str.Lines.{strip_carriage_return}

-- a line's content: its bytes without one last carriage return
abbrev pub content_of : List ℕ → List ℕ
content_of line = strip_carriage_return line

-- content that gets no answer: it is empty, or begins with `#`
abbrev pub is_comment : List ℕ → Bool
is_comment [] = true
is_comment (byte ∷ bytes) = byte == 0x23

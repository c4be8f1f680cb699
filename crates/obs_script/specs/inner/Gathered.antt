-- How a line is put together byte by byte, and how much of it is kept.
use Rattle.std.specs.Prelude.{◌≡◌, ℕ, Bool, nat_le, List, [], ◌∷◌, ◌++◌, length, take, Option, None, Some, if◌then◌else◌}
use Rattle.obs_text.specs.Lines.{is_feed}
use Rattle.obs_script.specs.Commands.{most_bytes}
use Rattle.obs_script.specs.Gathered.{content_of, is_comment}

-- a line after one more byte: a line feed ends it and is no part of it
abbrev pub fed : List ℕ → ℕ → List ℕ
fed line byte = if is_feed byte then line else line ++ byte ∷ []

-- the content, where it isn't too long
abbrev pub line_of : List ℕ → Option (List ℕ)
line_of line = if nat_le (length (content_of line)) most_bytes then Some (content_of line) else None

-- a line that gets no answer, whatever its length
abbrev pub is_passed : List ℕ → Bool
is_passed line = is_comment (content_of line)

-- how many bytes are kept of a line: with as many its content is too long
abbrev pub most_held : ℕ
most_held = 258

-- these bytes are what is kept of the line: all of it, or its first 258 bytes where it is longer
abbrev pub Holds : List ℕ → List ℕ → Type 0
Holds held line = held ≡ take most_held line

-- What stands behind the last line feed of an input.
use Rattle.std.specs.Prelude.{ℕ, List, [], ◌∷◌, ◌++◌, if◌then◌else◌}
use Rattle.obs_text.specs.Lines.{is_feed}

-- the bytes of the line that hasn't ended then
abbrev pub open_after : List ℕ → List ℕ → List ℕ
open_after line [] = line
open_after line (byte ∷ bytes) = if is_feed byte then open_after [] bytes else open_after (line ++ (byte ∷ [])) bytes

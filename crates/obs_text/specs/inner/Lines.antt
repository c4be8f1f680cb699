-- What is behind the first line of bytes.
use Rattle.std.specs.Prelude.{◌≡◌, ℕ, Option, List}
use denote.Ref.{Bor}
use Rattle.std.specs.Iterator.{YieldsFirstRef}
use Rattle.std.specs.List.{after_first}
use Rattle.obs_text.specs.Lines.{is_feed, lines_of}

-- the bytes after the first line and its end
abbrev pub after_line : List ℕ → List ℕ
after_line bytes = after_first is_feed bytes

-- a call of `next` over some bytes gives their first line, if there is one, and leaves the bytes after it
pub record GivesLine (bytes : List ℕ) (line : Option (Bor (List ℕ))) (rest : List ℕ) : Type 0 where
  pub first : YieldsFirstRef lines_of bytes line rest
  pub left : rest ≡ after_line bytes

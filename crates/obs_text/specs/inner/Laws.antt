-- Laws of decimals, lines and blanks.
use Rattle.std.specs.Prelude.{◌≡◌, ◌≢◌, ◌<◌, ◌^◌, ◌⊎◌, ⊤, ℕ, List, [], ◌∷◌, ◌++◌, replicate, decimal, Some}
use Rattle.std.specs.List.{concat}
use Rattle.std.specs.Str.Lines.{strip_carriage_return}
use Rattle.obs_text.specs.Columns.{bare_of}
use Rattle.obs_text.specs.Lines.{content, ended_lines}
use Rattle.obs_text.specs.Numbers.{whole_of}
use Rattle.obs_text.specs.Laws.{HasNoFeed}

-- a number of at most 19 digits is read back from its decimal text, and what is read is that text behind zeros
pub record ReadsDecimals : Type 0 where
  pub back : (n : ℕ) → n < 10 ^ 19 → whole_of (decimal n) ≡ Some n
  pub text : (bytes : List ℕ) (n : ℕ) → whole_of bytes ≡ Some n → (zeros : ℕ) × (bytes ≡ replicate zeros 0x30 ++ decimal n)

-- a line up to and with its one line feed
abbrev pub IsEnded : List ℕ → Type 0
IsEnded line = (front : List ℕ) × HasNoFeed front × (line ≡ front ++ 0x0A ∷ [])

-- each line ends at its one line feed; the last may have none, and isn't empty then
abbrev pub AreLines : List (List ℕ) → Type 0
AreLines [] = ⊤
AreLines (line ∷ []) = IsEnded line ⊎ (HasNoFeed line × (line ≢ []))
AreLines (line ∷ next ∷ lines) = IsEnded line × AreLines (next ∷ lines)

-- the lines of bytes with their ends: joined up they are the bytes, and no other lines are; a line's content stands before its
-- end, which is a line feed, or that behind a carriage return
pub record LinesAreTheBytes : Type 0 where
  pub joined : (bytes : List ℕ) → concat (ended_lines bytes) ≡ bytes
  pub ended : (bytes : List ℕ) → AreLines (ended_lines bytes)
  pub alone : (lines : List (List ℕ)) → AreLines lines → ended_lines (concat lines) ≡ lines
  pub feed : (line : List ℕ) → HasNoFeed line → content (line ++ 0x0A ∷ []) ≡ strip_carriage_return line
  pub last : (line : List ℕ) → HasNoFeed line → content line ≡ strip_carriage_return line
  pub return : (line : List ℕ) → strip_carriage_return (line ++ 0x0D ∷ []) ≡ line

-- bare bytes are what stands between blanks, and have no blank at either end
pub record BareIsBetweenBlanks : Type 0 where
  pub between : (bytes : List ℕ) → (before after : ℕ) × (bytes ≡ replicate before 0x20 ++ (bare_of bytes ++ replicate after 0x20))
  pub first : (bytes rest : List ℕ) → bare_of bytes ≢ 0x20 ∷ rest
  pub last : (bytes front : List ℕ) → bare_of bytes ≢ front ++ 0x20 ∷ []

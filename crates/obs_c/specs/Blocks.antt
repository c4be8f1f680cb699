-- What the blocks of a call hold: words, and contents by their lengths.
use Rattle.std.specs.Prelude.{ℕ, ◌≡◌, ◌==◌, All, Bool, true, if◌then◌else◌, IsUtf8, List, [], ◌∷◌, length, sum_by}
use Rattle.std.specs.List.{onto_first}

-- a zero byte, with which a word ends
abbrev pub is_zero : ℕ → Bool
is_zero byte = byte == 0

-- the words of a block: each goes on up to its zero byte
unfoldable pub words_in : List ℕ → List (List ℕ)
words_in [] = []
words_in (byte ∷ bytes) = if is_zero byte then [] ∷ words_in bytes else onto_first byte (words_in bytes)

-- whether the last word is ended: the last byte, if there is one, is a zero byte
unfoldable pub is_ended : List ℕ → Bool
is_ended [] = true
is_ended (byte ∷ []) = is_zero byte
is_ended (byte ∷ next ∷ bytes) = is_ended (next ∷ bytes)

-- a block is words: each is ended, and each is UTF-8
pub record AreWords (block : List ℕ) : Type 0 where
  pub ended : is_ended block ≡ true
  pub text : All IsUtf8 (words_in block)

-- the sum of some lengths
abbrev pub sum : List ℕ → ℕ
sum lengths = sum_by (λ n. n) lengths

-- there is a length for each word, and together they are those of all contents
pub record AreLengths (words : ℕ) (contents : List ℕ) (lengths : List ℕ) : Type 0 where
  pub one_each : length lengths ≡ words
  pub all : sum lengths ≡ length contents

-- the blocks are words and contents
pub record IsCall (block contents counts : List ℕ) : Type 0 where
  pub words : AreWords block
  pub lengths : AreLengths (length (words_in block)) contents counts

-- the number that a call answers where they aren't
abbrev pub malformed : ℕ
malformed = 8

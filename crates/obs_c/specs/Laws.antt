-- Statements of laws.
use Rattle.std.specs.Prelude.{◌≡◌, ℕ, true, not, IsTrue, List, [], ◌∷◌, ◌++◌, map}
use Rattle.std.specs.List.{concat, list_all}
use Rattle.obs_c.specs.Blocks.{is_ended, is_zero, words_in}

-- no byte of any of the words is zero
abbrev pub HaveNoZero : List (List ℕ) → Type 0
HaveNoZero words = IsTrue (list_all (λ word. list_all (λ byte. not (is_zero byte)) word) words)

-- words one behind another, a zero byte behind each
abbrev pub block_of : List (List ℕ) → List ℕ
block_of words = concat (map (λ word. word ++ 0 ∷ []) words)

-- a block whose last word is ended is its words, a zero byte behind each, and no other words without a zero byte make it
pub record WordsAreTheBlock : Type 0 where
  pub joined : (block : List ℕ) → is_ended block ≡ true → block_of (words_in block) ≡ block
  pub zeros : (block : List ℕ) → HaveNoZero (words_in block)
  pub ended : (words : List (List ℕ)) → is_ended (block_of words) ≡ true
  pub alone : (words : List (List ℕ)) → HaveNoZero words → words_in (block_of words) ≡ words

-- Files side by side in one block of bytes.
use Rattle.std.specs.Prelude.{ℕ, zero, suc, List, [], ◌∷◌, take, drop}

-- the content of a word's file, where files of these lengths stand one behind another in the order of their words; a word without a
-- length has an empty one
unfoldable pub content_at : List ℕ → List ℕ → ℕ → List ℕ
content_at bytes [] word = []
content_at bytes (n ∷ lengths) zero = take n bytes
content_at bytes (n ∷ lengths) (suc word) = content_at (drop n bytes) lengths word

-- Statements of laws.
use Rattle.std.specs.Prelude.{◌≡◌, ℕ, List, [], length, map, slice_index_or}
use Rattle.std.specs.List.{concat}
use Rattle.obs_io.specs.Contents.{content_at}

-- of contents that stand one behind another, by their lengths, each is found whole at the word of its number; a word behind the last
-- has an empty file
abbrev pub ContentsStandInBlock : Type 0
ContentsStandInBlock = (contents : List (List ℕ)) (word : ℕ) → content_at (concat contents) (map length contents) word ≡ slice_index_or contents word []

-- The text of a table, and lines that are looked for.
use Rattle.std.specs.Prelude.{◌≡◌, ℕ, ◌+◌, Bool, true, List, [], ◌∷◌, if◌then◌else◌}
use Rattle.std.specs.List.{before_first, concat, list_any, position_or_len}
use Rattle.obs_text.specs.Lines.{ended_lines}
use Rattle.obs_matpower.specs.declared.find.Sought.{Sought}
use Rattle.obs_matpower.specs.declared.find.Sought.TheVariants.{Opening, Closing}
use Rattle.obs_matpower.specs.declared.part.MatTable.{MatTable}
use Rattle.obs_matpower.specs.Lines.{closes, is_closing, opens}
use Rattle.obs_matpower.specs.Table.{from_first, after_opening}

-- the lines up to the first `]` that is in no comment, or all
abbrev pub until_closing : List (List ℕ) → List (List ℕ)
until_closing [] = []
until_closing (line ∷ lines) = if closes line then before_first is_closing line ∷ [] else line ∷ until_closing lines

-- the text of a table: nothing where there is no table, and all that follows its start where it isn't ended
abbrev pub text_of : MatTable → List ℕ → List ℕ
text_of table bytes = concat (until_closing (ended_lines (after_opening table bytes)))

-- what a line is looked for by
abbrev pub is_sought : Sought → List ℕ → Bool
is_sought (Opening table) = opens table
is_sought Closing = closes

-- the first line of some bytes that passes a test: what stands before it, the bytes from it on, and its number from 1
pub record IsFound (p : List ℕ → Bool) (bytes front rest : List ℕ) (number : ℕ) : Type 0 where
  pub some : list_any p (ended_lines bytes) ≡ true
  pub before : front ≡ concat (before_first p (ended_lines bytes))
  pub from : rest ≡ concat (from_first p (ended_lines bytes))
  pub at : number ≡ position_or_len p (ended_lines bytes) + 1

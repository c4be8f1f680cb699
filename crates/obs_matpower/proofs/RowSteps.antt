-- One step over the rows of a text.
use Rattle.std.proofs.Common.{◌≡◌, ℕ, ◌+◌, Bool, true, false, List, [], ◌∷◌, ◌++◌, sym, ap, ◌∙◌}
use Rattle.std.specs.List.{after_first, before_first}
use Rattle.obs_text.specs.inner.Lines.{after_line}
use Rattle.obs_matpower.specs.Lines.{is_semicolon}
use Rattle.obs_matpower.specs.Rows.{has_value, line_rows}
use Rattle.obs_matpower.specs.inner.Rows.{first_code, rows_from, rows_of}
use Rattle.obs_matpower.proofs.SplitLemmas.{line_rows-nil, line_rows_first, line_rows_skip}
use Rattle.obs_matpower.proofs.TextLemmas.{rows_of-first}

module _ (ended : Bool) (line : ℕ) (code rest : List ℕ) where
  -- the rows of the rest of a line, and of the lines after it
  abbrev pub left : ℕ → List ℕ → List ℕ → List (ℕ × List ℕ)
  left at here others = line_rows at here ++ rows_of ended (at + 1) others

  pub no_rows_left : code ≡ [] → rest ≡ [] → left line code rest ≡ []
  unfolding rows_from
  no_rows_left none no_lines = ap (λ c. left line c rest) none ∙ ap (left line []) no_lines ∙ ap (λ rows. rows ++ []) (line_rows-nil line)

  pub next_line_left : (here others : List ℕ) → code ≡ [] → here ≡ first_code ended rest → others ≡ after_line rest → left (line + 1) here others ≡ left line code rest
  next_line_left here others none is after =
      ap (λ c. left (line + 1) c others) is ∙ ap (left (line + 1) (first_code ended rest)) after ∙ sym (rows_of-first ended (line + 1) rest)
      ∙ sym (ap (λ c. left line c rest) none ∙ ap (λ rows. rows ++ rows_of ended (line + 1) rest) (line_rows-nil line))

  module _ (row after : List ℕ) (is : row ≡ before_first is_semicolon code) (rest_is : after ≡ after_first is_semicolon code) where
    pub row_left : has_value row ≡ true → left line code rest ≡ (line, row) ∷ left line after rest
    row_left some =
        ap (λ rows. rows ++ rows_of ended (line + 1) rest) (line_rows_first line code (sym (ap has_value is) ∙ some))
        ∙ ap (λ r. (line, r) ∷ left line (after_first is_semicolon code) rest) (sym is) ∙ ap (λ a. (line, row) ∷ left line a rest) (sym rest_is)

    pub row_passed : has_value row ≡ false → left line after rest ≡ left line code rest
    row_passed none =
        ap (λ a. left line a rest) rest_is ∙ sym (ap (λ rows. rows ++ rows_of ended (line + 1) rest) (line_rows_skip line code (sym (ap has_value is) ∙ none)))

-- Parts between separators, without those that a test passes over.
use Rattle.std.proofs.Common.{◌≡◌, ℕ, ◌+◌, ◌<◌, suc, Bool, true, false, cond, List, [], ◌∷◌, filter, length, map, take, refl, sym, ap, ◌∙◌, inl, inr, arith}
use Rattle.std.proofs.Math.Numerals.{one-add}
use Rattle.std.proofs.lemmas.Bool.{cases_Bool, lt-ltb, cond-true, cond-false, le-ltb}
use Rattle.std.specs.List.{after_first, before_first, onto_first, position_or_len, slice_split}
use Rattle.obs_matpower.specs.Lines.{is_semicolon}
use Rattle.obs_matpower.specs.Rows.{has_value, is_separator, is_some_bytes, line_rows, values_of}

module _ (p : ℕ → Bool) (keep : List ℕ → Bool) (empty : keep [] ≡ false) where
  -- the first part is what stands before the separator, and the parts that are kept of the others come from what stands after it
  abbrev pub SplitsFirst : List ℕ → Type 0
  SplitsFirst bs =
      (rest : List (List ℕ)) × (slice_split p bs ≡ before_first p bs ∷ rest) × (filter keep rest ≡ filter keep (slice_split p (after_first p bs)))

  splits_first : (bs : List ℕ) → SplitsFirst bs
  splits_first [] = ([], refl, sym (cond-false _ ([] ∷ []) [] empty))
  splits_first (b ∷ bs) =
      elim (cases_Bool (p b)) [
        | inl e ↦ rw e (slice_split p bs, refl, refl)
        | inr e ↦
            let later = splits_first bs in
            let shifted : 1 + position_or_len p bs + 1 ≡ suc (position_or_len p bs + 1) = omega arith in
            rw (e, shifted) (later.0, ap (onto_first b) later.1 ∙ ap (λ n. take n (b ∷ bs) ∷ later.0) (sym (one-add (position_or_len p bs))), later.2)
      ]

  kept_first : (bs : List ℕ) → filter keep (slice_split p bs) ≡ cond (keep (before_first p bs)) (before_first p bs ∷ filter keep (slice_split p (after_first p bs))) (filter keep (slice_split p (after_first p bs)))
  kept_first bs =
      let s = splits_first bs in
      ap (filter keep) s.1 ∙ ap (λ rest. cond (keep (before_first p bs)) (before_first p bs ∷ rest) rest) s.2

  pub kept_here : (bs : List ℕ) → keep (before_first p bs) ≡ true → filter keep (slice_split p bs) ≡ before_first p bs ∷ filter keep (slice_split p (after_first p bs))
  kept_here bs e = kept_first bs ∙ cond-true _ _ _ e

  pub passed_over : (bs : List ℕ) → keep (before_first p bs) ≡ false → filter keep (slice_split p bs) ≡ filter keep (slice_split p (after_first p bs))
  passed_over bs e = kept_first bs ∙ cond-false _ _ _ e

-- ---- values

pub values-nil : values_of [] ≡ []
unfolding values_of
values-nil = refl

pub values_first : (bs : List ℕ) → 0 < length (before_first is_separator bs) → values_of bs ≡ before_first is_separator bs ∷ values_of (after_first is_separator bs)
unfolding values_of
values_first bs some = kept_here is_separator is_some_bytes refl bs (lt-ltb 0 (length (before_first is_separator bs)) some)

pub values_skip : (bs : List ℕ) → length (before_first is_separator bs) ≡ 0 → values_of bs ≡ values_of (after_first is_separator bs)
unfolding values_of
values_skip bs none = passed_over is_separator is_some_bytes refl bs (le-ltb 0 (length (before_first is_separator bs)) (omega (arith, none)))

-- ---- the rows of a line

pub line_rows-nil : (at : ℕ) → line_rows at [] ≡ []
unfolding line_rows
line_rows-nil at = refl

pub line_rows_first : (at : ℕ) (bs : List ℕ) → has_value (before_first is_semicolon bs) ≡ true → line_rows at bs ≡ (at, before_first is_semicolon bs) ∷ line_rows at (after_first is_semicolon bs)
unfolding line_rows
line_rows_first at bs some = ap (map (λ row. (at, row))) (kept_here is_semicolon has_value refl bs some)

pub line_rows_skip : (at : ℕ) (bs : List ℕ) → has_value (before_first is_semicolon bs) ≡ false → line_rows at bs ≡ line_rows at (after_first is_semicolon bs)
unfolding line_rows
line_rows_skip at bs none = ap (map (λ row. (at, row))) (passed_over is_semicolon has_value refl bs none)

-- Flags that are set row by row.
use Rattle.std.proofs.Common.{inl, inr, ◌≡◌, ℕ, ◌+◌, ◌<◌, Bool, true, false, List, length, set, sym, ap, ◌∙◌, subst, get_or-set_same, get_or-set_other, arith}
use Rattle.std.proofs.lemmas.Bool.{cases_eq}
use Rattle.obs_assign.specs.inner.Assignment.{has_flag}

module _ (P : ℕ → Type 0) (flags : List Bool) (e : ℕ) (answer : Bool) (low : e < length flags) where
  here : (k : ℕ) (b : Bool) → k ≡ e → has_flag (set flags e answer) k ≡ b → answer ≡ b
  here k b y is = sym (get_or-set_same flags e answer false low) ∙ (ap (λ j. has_flag (set flags e answer) j) (sym y) ∙ is)

  -- what is so of the flagged ones, with one flag more
  pub flagged_set : (answer ≡ true → P e) → ((k : ℕ) → has_flag flags k ≡ true → P k) → (k : ℕ) → has_flag (set flags e answer) k ≡ true → P k
  flagged_set own h k is = elim (cases_eq k e) [
    | inl y ↦ subst P (sym y) (own (here k true y is))
    | inr n ↦ h k (sym (get_or-set_other flags e k answer false n) ∙ is)
  ]

  -- what is so of those below that aren't flagged
  pub unflagged_set : (answer ≡ false → P e) → ((k : ℕ) → k < e → has_flag flags k ≡ false → P k) → (k : ℕ) → k < e + 1 → has_flag (set flags e answer) k ≡ false → P k
  unflagged_set own h k l is = elim (cases_eq k e) [
    | inl y ↦ subst P (sym y) (own (here k false y is))
    | inr n ↦ h k (omega (arith, l, n)) (sym (get_or-set_other flags e k answer false n) ∙ is)
  ]

-- The words of a block, by where a zero byte stands.
use Rattle.std.proofs.Common.{◌≡◌, ℕ, suc, ◌<◌, true, false, List, [], ◌∷◌, length, take, drop, refl, sym, ap, ◌∙◌, inl, inr, arith}
use Rattle.std.proofs.Math.Numerals.{one-add}
use Rattle.std.proofs.lemmas.Bool.{cases_Bool}
use Rattle.std.specs.List.{onto_first, position_or_len}
use Rattle.obs_c.specs.Blocks.{is_ended, is_zero, words_in}

-- the place of the first zero byte
abbrev zero_at : List ℕ → ℕ
zero_at bytes = position_or_len is_zero bytes

zero_at-other : (b : ℕ) (bs : List ℕ) → is_zero b ≡ false → zero_at (b ∷ bs) ≡ suc (zero_at bs)
zero_at-other b bs e = rw e (one-add (zero_at bs))

zero_at-zero : (b : ℕ) (bs : List ℕ) → is_zero b ≡ true → zero_at (b ∷ bs) ≡ 0
zero_at-zero b bs e = rw e refl

pub words_in-more : (bytes : List ℕ) → zero_at bytes < length bytes → words_in bytes ≡ take (zero_at bytes) bytes ∷ words_in (drop (suc (zero_at bytes)) bytes)
unfolding words_in
words_in-more [] less = absurd (omega arith)
words_in-more (b ∷ bs) less =
    elim (cases_Bool (is_zero b)) [
      | inl e ↦ rw e refl
      | inr e ↦
          let here : zero_at bs < length bs = omega (arith, less, zero_at-other b bs e) in
          rw e (ap (onto_first b) (words_in-more bs here) ∙ ap (λ n. take n (b ∷ bs) ∷ words_in (drop (suc n) (b ∷ bs))) (sym (one-add (zero_at bs))))
    ]

-- the last byte is that of what stands behind the first word
pub is_ended-more : (bytes : List ℕ) → zero_at bytes < length bytes → is_ended bytes ≡ is_ended (drop (suc (zero_at bytes)) bytes)
unfolding is_ended
is_ended-more [] less = absurd (omega arith)
is_ended-more (b ∷ []) less =
    elim (cases_Bool (is_zero b)) [
      | inl e ↦ rw e refl
      | inr e ↦ absurd (omega (arith, less, zero_at-other b [] e))
    ]
is_ended-more (b ∷ c ∷ bs) less =
    elim (cases_Bool (is_zero b)) [
      | inl e ↦ rw e refl
      | inr e ↦
          let here : zero_at (c ∷ bs) < length (c ∷ bs) = omega (arith, less, zero_at-other b (c ∷ bs) e) in
          rw e (is_ended-more (c ∷ bs) here ∙ ap (λ n. is_ended (drop (suc n) (b ∷ c ∷ bs))) (sym (one-add (zero_at (c ∷ bs)))))
    ]

-- a block without a zero byte isn't ended
pub is_ended-none : (bytes : List ℕ) → 0 < length bytes → zero_at bytes ≡ length bytes → is_ended bytes ≡ false
unfolding is_ended
is_ended-none [] some none = absurd (omega arith)
is_ended-none (b ∷ []) some none =
    elim (cases_Bool (is_zero b)) [
      | inl e ↦ absurd (omega (arith, none, zero_at-zero b [] e))
      | inr e ↦ e
    ]
is_ended-none (b ∷ c ∷ bs) some none =
    elim (cases_Bool (is_zero b)) [
      | inl e ↦ absurd (omega (arith, none, zero_at-zero b (c ∷ bs) e))
      | inr e ↦ is_ended-none (c ∷ bs) (omega arith) (omega (arith, none, zero_at-other b (c ∷ bs) e))
    ]

-- Bytes without the blanks at both ends.
use Rattle.std.proofs.Common.{◌≡◌, ◌≢◌, ℕ, zero, suc, ◌+◌, ◌-◌, List, [], ◌∷◌, ◌++◌, length, take, drop, reverse, replicate, refl, sym, ap, ◌∙◌, inl, inr, one-add, arith}
use Rattle.std.proofs.lemmas.Bool.{cases_Bool, eqb-true, true≢false}
use Rattle.std.proofs.lemmas.List.{length-drop, length-reverse, replicate_more, reverse-append, reverse-reverse, take-append-drop}
use Rattle.std.proofs.Math.Seq.{take-append_seam}
use Rattle.std.specs.List.{prefix_len, suffix_len}
use Rattle.obs_text.specs.Columns.{bare_of, is_blank, without_first_blanks, without_last_blanks}

-- the first blanks, and the bytes after them
pub first_blanks : (bytes : List ℕ) → bytes ≡ replicate (prefix_len is_blank bytes) 0x20 ++ without_first_blanks bytes
first_blanks [] = refl
first_blanks (b ∷ bs) =
    elim (cases_Bool (is_blank b)) [
      | inl e ↦ (
          let is : b ≡ 0x20 = eqb-true b 0x20 e in
          rw (e, one-add (prefix_len is_blank bs), is) (ap (λ t. 0x20 ∷ t) (first_blanks bs)))
      | inr e ↦ rw e refl
    ]

-- no blank stands first behind the first blanks
pub no_first_blank : (bytes rest : List ℕ) → without_first_blanks bytes ≢ 0x20 ∷ rest
no_first_blank [] rest = λ is. cc
no_first_blank (b ∷ bs) rest =
    elim (cases_Bool (is_blank b)) [
      | inl e ↦ rw (e, one-add (prefix_len is_blank bs)) (no_first_blank bs rest)
      | inr e ↦ rw e (λ is. (let first : b ≡ 0x20 = cc in absurd (true≢false (sym (ap is_blank first) ∙ e))))
    ]

reverse-replicate : (n b : ℕ) → reverse (replicate n b) ≡ replicate n b
reverse-replicate zero b = refl
reverse-replicate (suc n) b =
    let next : n + 1 ≡ suc n = omega arith in
    reverse-append (b ∷ []) (replicate n b) ∙ ap (λ t. t ++ b ∷ []) (reverse-replicate n b) ∙ replicate_more n b ∙ ap (λ k. replicate k b) next

module _ (bytes : List ℕ) where
  -- the bytes up to the last blanks, read backwards
  backwards : bytes ≡ reverse (without_first_blanks (reverse bytes)) ++ replicate (suffix_len is_blank bytes) 0x20
  backwards =
      sym (reverse-reverse bytes) ∙ ap reverse (first_blanks (reverse bytes))
      ∙ reverse-append (replicate (suffix_len is_blank bytes) 0x20) (without_first_blanks (reverse bytes))
      ∙ ap (λ t. reverse (without_first_blanks (reverse bytes)) ++ t) (reverse-replicate (suffix_len is_blank bytes) 0x20)

  length-front : length (reverse (without_first_blanks (reverse bytes))) ≡ length bytes - suffix_len is_blank bytes
  length-front =
      length-reverse (without_first_blanks (reverse bytes)) ∙ length-drop (suffix_len is_blank bytes) (reverse bytes)
      ∙ ap (λ n. n - suffix_len is_blank bytes) (length-reverse bytes)

  front : without_last_blanks bytes ≡ reverse (without_first_blanks (reverse bytes))
  front =
      ap (λ n. take n bytes) (sym length-front)
      ∙ ap (λ t. take (length (reverse (without_first_blanks (reverse bytes)))) t) backwards
      ∙ take-append_seam (reverse (without_first_blanks (reverse bytes))) (replicate (suffix_len is_blank bytes) 0x20)

  pub last_blanks : bytes ≡ without_last_blanks bytes ++ replicate (suffix_len is_blank bytes) 0x20
  last_blanks = backwards ∙ ap (λ t. t ++ replicate (suffix_len is_blank bytes) 0x20) (sym front)

  pub no_last_blank : (rest : List ℕ) → without_last_blanks bytes ≢ rest ++ 0x20 ∷ []
  no_last_blank rest is =
      no_first_blank (reverse bytes) (reverse rest)
      (sym (reverse-reverse (without_first_blanks (reverse bytes))) ∙ ap reverse (sym front ∙ is) ∙ reverse-append rest (0x20 ∷ []))

-- a front of bytes that begin with no blank begins with none
take_first : (n : ℕ) (bytes rest : List ℕ) → take n bytes ≡ 0x20 ∷ rest → (others : List ℕ) × (bytes ≡ 0x20 ∷ others)
take_first n bytes rest is = (rest ++ drop n bytes, sym (take-append-drop n bytes) ∙ ap (λ t. t ++ drop n bytes) is)

module _ (bytes : List ℕ) where
  pub bare_between : bytes ≡ replicate (prefix_len is_blank bytes) 0x20 ++ (bare_of bytes ++ replicate (suffix_len is_blank (without_first_blanks bytes)) 0x20)
  bare_between = first_blanks bytes ∙ ap (λ t. replicate (prefix_len is_blank bytes) 0x20 ++ t) (last_blanks (without_first_blanks bytes))

  pub bare_first : (rest : List ℕ) → bare_of bytes ≢ 0x20 ∷ rest
  bare_first rest is =
      let begins = take_first _ (without_first_blanks bytes) rest is in no_first_blank bytes begins.0 begins.1

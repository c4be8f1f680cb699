-- What is kept of a line is enough.
use Rattle.std.proofs.Common.{◌≡◌, ℕ, suc, ◌+◌, ◌-◌, ◌<◌, ◌≤◌, eqb, List, [], ◌∷◌, ◌++◌, length, take, get_or, None, refl, sym, ap, ◌∙◌, inl, inr, arith}
use Rattle.std.proofs.lemmas.Bool.{cases_Bool, cases_lt, lt-leb}
use Rattle.std.proofs.lemmas.List.{length-append, length-take, length-take-le, take_all, take-append-le}
use Rattle.obs_script.specs.Gathered.{content_of, is_comment}
use Rattle.obs_script.specs.inner.Gathered.{Holds, is_passed, line_of, most_held}

-- a line has at most one byte more than its content
pub length-content : (line : List ℕ) → length line ≤ length (content_of line) + 1
length-content line =
    elim (cases_Bool (eqb (get_or line (length line - 1) 0) 13)) [
      | inl e ↦ rw e (omega (arith, length-take-le (length line - 1) line (omega arith)))
      | inr e ↦ rw e (omega arith)
    ]

-- a line of as many bytes as are kept, or more, is too long
pub line_of-long : (line : List ℕ) → most_held ≤ length line → line_of line ≡ None
line_of-long line long = rw (lt-leb (length (content_of line)) 256 (omega (arith, length-content line))) refl

-- content that isn't empty is passed by its first byte
pub is_comment-some : (bytes : List ℕ) → 1 ≤ length bytes → eqb (get_or bytes 0 0) 0x23 ≡ is_comment bytes
is_comment-some [] some = absurd (omega arith)
is_comment-some (byte ∷ bytes) some = refl

-- a line of two bytes or more begins as its content does
is_passed-first : (a b : ℕ) (bytes : List ℕ) → is_passed (a ∷ b ∷ bytes) ≡ eqb a 0x23
is_passed-first a b bytes =
    elim (cases_Bool (eqb (get_or (a ∷ b ∷ bytes) (suc (suc (length bytes)) - 1) 0) 13)) [
      | inl e ↦ (let less : length (a ∷ b ∷ bytes) - 1 ≡ suc (length bytes) = omega arith in rw (e, less) refl)
      | inr e ↦ rw e refl
    ]

module _ (line : List ℕ) where
  -- a line that isn't longer than what is kept is kept whole
  pub held_whole : length line ≤ most_held → take most_held line ≡ line
  held_whole short = take_all most_held line short

  pub line_of-held : line_of (take most_held line) ≡ line_of line
  line_of-held =
      elim (cases_lt most_held (length line)) [
        | inr short ↦ ap line_of (held_whole short)
        | inl long ↦ line_of-long (take most_held line) (omega (arith, length-take-le most_held line (omega arith))) ∙ sym (line_of-long line (omega arith))
      ]

pub is_passed-held : (line : List ℕ) → is_passed (take most_held line) ≡ is_passed line
is_passed-held [] = refl
is_passed-held (a ∷ []) = refl
is_passed-held (a ∷ b ∷ bytes) = is_passed-first a b (take 256 bytes) ∙ sym (is_passed-first a b bytes)

-- one byte more where there is room for it
pub held_grows : (held line : List ℕ) (byte : ℕ) → Holds held line → length held < most_held → Holds (held ++ byte ∷ []) (line ++ byte ∷ [])
held_grows held line byte holds room =
    let short : length line ≤ most_held = omega (arith, ap length holds, length-take most_held line) in
    let same : held ≡ line = holds ∙ held_whole line short in
    let fits : length (line ++ byte ∷ []) ≤ most_held = omega (arith, ap length same, length-append line (byte ∷ [])) in
    ap (λ front. front ++ byte ∷ []) same ∙ sym (held_whole (line ++ byte ∷ []) fits)

-- one byte more where there is none
pub held_stays : (held line : List ℕ) (byte : ℕ) → Holds held line → most_held ≤ length held → Holds held (line ++ byte ∷ [])
held_stays held line byte holds full =
    holds ∙ sym (take-append-le most_held line (byte ∷ []) (omega (arith, ap length holds, length-take most_held line)))

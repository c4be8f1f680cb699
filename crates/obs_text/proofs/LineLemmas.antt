-- The first line of bytes, and those after it.
use Rattle.std.proofs.Common.{◌≡◌, ℕ, suc, true, false, List, [], ◌∷◌, map, take, drop, refl, sym, ap, ◌∙◌, inl, inr, add-one, length, ◌<◌, ◌≢◌, arith}
use Rattle.std.proofs.Math.Numerals.{one-add}
use Rattle.std.proofs.lemmas.Bool.{cases_Bool}
use Rattle.std.specs.List.{before_first, onto_first, position_or_len}
use Rattle.std.specs.Str.Lines.{strip_carriage_return}
use Rattle.obs_text.specs.Lines.{content, ended_lines, is_feed, lines_of}
use Rattle.obs_text.specs.inner.Lines.{after_line}

-- the place of the first line feed
abbrev pub feed_at : List ℕ → ℕ
feed_at bytes = position_or_len is_feed bytes

feed_at-other : (b : ℕ) (bs : List ℕ) → is_feed b ≡ false → feed_at (b ∷ bs) ≡ suc (feed_at bs)
feed_at-other b bs e = rw e (one-add (feed_at bs))

-- the bytes up to a place and the lines after it, as lines
abbrev pub lines_at : ℕ → List ℕ → List (List ℕ)
lines_at n bytes = take n bytes ∷ ended_lines (drop n bytes)

onto_first-at : (b n : ℕ) (bs : List ℕ) → onto_first b (lines_at n bs) ≡ lines_at (suc n) (b ∷ bs)
onto_first-at b n bs = refl

-- the bytes are their first line with its end, and then the lines after it
pub ended_lines-first : (b : ℕ) (bs : List ℕ) → ended_lines (b ∷ bs) ≡ lines_at (suc (feed_at (b ∷ bs))) (b ∷ bs)
ended_lines-first b [] = elim (cases_Bool (is_feed b)) [ inl e ↦ rw e refl | inr e ↦ rw e refl ]
ended_lines-first b (c ∷ cs) =
    elim (cases_Bool (is_feed b)) [
      | inl e ↦ rw e refl
      | inr e ↦ rw e (ap (onto_first b) (ended_lines-first c cs) ∙ onto_first-at b (suc (feed_at (c ∷ cs))) (c ∷ cs)
          ∙ ap (λ n. lines_at (suc n) (b ∷ c ∷ cs)) (sym (one-add (feed_at (c ∷ cs)))))
    ]

before_first-feed : (b : ℕ) (bs : List ℕ) → is_feed b ≡ true → before_first is_feed (b ∷ bs) ≡ []
before_first-feed b bs e = rw e refl

before_first-other : (b : ℕ) (bs : List ℕ) → is_feed b ≡ false → before_first is_feed (b ∷ bs) ≡ b ∷ before_first is_feed bs
before_first-other b bs e = rw e (ap (λ n. take n (b ∷ bs)) (one-add (feed_at bs)))

-- the first line with its end has the content that stands before the first line feed
before_feed : (bytes : List ℕ) → before_first is_feed (take (suc (feed_at bytes)) bytes) ≡ before_first is_feed bytes
before_feed [] = refl
before_feed (b ∷ bs) =
    elim (cases_Bool (is_feed b)) [
      | inl e ↦ before_first-feed b (take (feed_at (b ∷ bs)) bs) e ∙ sym (before_first-feed b bs e)
      | inr e ↦ before_first-other b (take (feed_at (b ∷ bs)) bs) e
          ∙ ap (λ n. b ∷ before_first is_feed (take n bs)) (feed_at-other b bs e)
          ∙ ap (λ line. b ∷ line) (before_feed bs) ∙ sym (before_first-other b bs e)
    ]

pub lines_of-first : (b : ℕ) (bs : List ℕ) → lines_of (b ∷ bs) ≡ strip_carriage_return (before_first is_feed (b ∷ bs)) ∷ lines_of (after_line (b ∷ bs))
lines_of-first b bs =
    ap (map content) (ended_lines-first b bs)
    ∙ ap (λ line. strip_carriage_return line ∷ lines_of (drop (suc (feed_at (b ∷ bs))) (b ∷ bs))) (before_feed (b ∷ bs))
    ∙ ap (λ n. strip_carriage_return (before_first is_feed (b ∷ bs)) ∷ lines_of (drop n (b ∷ bs))) (sym (add-one (feed_at (b ∷ bs))))

-- the first of the lines, and the others
pub lines_of-step : (bytes line rest : List ℕ) → length bytes ≢ 0 → line ≡ strip_carriage_return (before_first is_feed bytes) → rest ≡ after_line bytes → lines_of bytes ≡ line ∷ lines_of rest
lines_of-step [] line rest some first others = absurd (some refl)
lines_of-step (b ∷ bs) line rest some first others = rw (first, others) (lines_of-first b bs)

-- a first line less is fewer lines
pub fewer_lines : (bytes line rest : List ℕ) → lines_of bytes ≡ line ∷ lines_of rest → length (lines_of rest) < length (lines_of bytes)
fewer_lines bytes line rest is = omega (arith, ap length is)

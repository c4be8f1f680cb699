-- Lines with their ends, joined up.
use Rattle.std.proofs.Common.{◌≡◌, ◌≢◌, ℕ, suc, ◌+◌, ◌-◌, ◌≤◌, true, false, not, List, [], ◌∷◌, ◌++◌, length, take, get_or, refl, sym, ap, ◌∙◌, inl, inr, append_assoc, append-nil, add-zero, arith}
use Rattle.std.proofs.lemmas.Bool.{and_from, and_parts, cases_Bool, eqb-true, not-true, not_from_false}
use Rattle.std.proofs.lemmas.List.{length-append, length-map}
use Rattle.std.proofs.Math.Seq.{take-append_seam}
use Rattle.std.specs.List.{before_first, concat, list_all, onto_first, position_or_len}
use Rattle.std.specs.Str.Lines.{strip_carriage_return}
use Rattle.obs_text.specs.Lines.{content, ended_lines, is_feed, lines_of}
use Rattle.obs_text.specs.Laws.{HasNoFeed}
use Rattle.obs_text.specs.inner.Laws.{AreLines, IsEnded}

pub onto_first-joined : (byte : ℕ) (lines : List (List ℕ)) → concat (onto_first byte lines) ≡ byte ∷ concat lines
onto_first-joined byte [] = refl
onto_first-joined byte (line ∷ lines) = refl

pub joined : (bytes : List ℕ) → concat (ended_lines bytes) ≡ bytes
joined [] = refl
joined (b ∷ bs) =
    elim (cases_Bool (is_feed b)) [
      | inl e ↦ rw e (ap (λ t. b ∷ t) (joined bs))
      | inr e ↦ rw e (onto_first-joined b (ended_lines bs) ∙ ap (λ t. b ∷ t) (joined bs))
    ]

-- each line has a byte at least
length-onto_first : (byte : ℕ) (lines : List (List ℕ)) → length (onto_first byte lines) ≤ suc (length lines)
length-onto_first byte [] = omega arith
length-onto_first byte (line ∷ lines) = omega arith

pub length-ended_lines : (bytes : List ℕ) → length (ended_lines bytes) ≤ length bytes
length-ended_lines [] = omega arith
length-ended_lines (b ∷ bs) =
    let fewer = length-ended_lines bs in
    elim (cases_Bool (is_feed b)) [
      | inl e ↦ rw e (omega (arith, fewer))
      | inr e ↦ rw e (omega (arith, fewer, length-onto_first b (ended_lines bs)))
    ]

pub length-lines_of : (bytes : List ℕ) → length (lines_of bytes) ≤ length bytes
length-lines_of bytes = omega (arith, length-map (ended_lines bytes) content, length-ended_lines bytes)

-- one byte more that is no line feed
more : (b : ℕ) (line : List ℕ) → is_feed b ≡ false → HasNoFeed line → HasNoFeed (b ∷ line)
more b line other none = and_from (not (is_feed b)) (list_all (λ byte. not (is_feed byte)) line) (not_from_false (is_feed b) other) none

-- what the first of these bytes says, and what the others say
pub parts : (b : ℕ) (line : List ℕ) → HasNoFeed (b ∷ line) → (is_feed b ≡ false) × HasNoFeed line
parts b line none =
    let both = and_parts (not (is_feed b)) (list_all (λ byte. not (is_feed byte)) line) none in (not-true (is_feed b) both.0, both.1)

ended_more : (b : ℕ) (line : List ℕ) → is_feed b ≡ false → IsEnded line → IsEnded (b ∷ line)
ended_more b line other ended = (b ∷ ended.0, more b ended.0 other ended.1, ap (λ t. b ∷ t) ended.2)

longer : (b : ℕ) (lines : List (List ℕ)) → is_feed b ≡ false → AreLines lines → AreLines (onto_first b lines)
longer b [] other are = inr (more b [] other refl, λ is. cc)
longer b (line ∷ []) other are =
    elim are [
      | inl ended ↦ inl (ended_more b line other ended)
      | inr unended ↦ inr (more b line other unended.0, λ is. cc)
    ]
longer b (line ∷ next ∷ lines) other are = (ended_more b line other are.0, are.1)

-- a line that is ended, before others
before : (line : List ℕ) (lines : List (List ℕ)) → IsEnded line → AreLines lines → AreLines (line ∷ lines)
before line [] ended are = inl ended
before line (next ∷ lines) ended are = (ended, are)

feed_is : (b : ℕ) → is_feed b ≡ true → IsEnded (b ∷ [])
feed_is b e = ([], refl, ap (λ byte. byte ∷ []) (eqb-true b 0x0A e))

pub are_lines : (bytes : List ℕ) → AreLines (ended_lines bytes)
are_lines [] = tt
are_lines (b ∷ bs) =
    elim (cases_Bool (is_feed b)) [
      | inl e ↦ rw e (before (b ∷ []) (ended_lines bs) (feed_is b e) (are_lines bs))
      | inr e ↦ rw e (longer b (ended_lines bs) e (are_lines bs))
    ]

-- a line that is ended is the first line of what it begins
pub ended_first : (line rest : List ℕ) → HasNoFeed line → ended_lines (line ++ 0x0A ∷ rest) ≡ (line ++ 0x0A ∷ []) ∷ ended_lines rest
ended_first [] rest none = refl
ended_first (b ∷ line) rest none =
    let first = parts b line none in
    let other : is_feed b ≡ false = first.0 in
    rw other (ap (onto_first b) (ended_first line rest first.1))

pub unended_last : (line : List ℕ) → HasNoFeed line → line ≢ [] → ended_lines line ≡ line ∷ []
unended_last [] none some = absurd (some refl)
unended_last (b ∷ []) none some = rw (parts b [] none).0 refl
unended_last (b ∷ c ∷ line) none some =
    let first = parts b (c ∷ line) none in
    let other : is_feed b ≡ false = first.0 in
    rw other (ap (onto_first b) (unended_last (c ∷ line) first.1 (λ is. cc)))

ended_then : (line rest : List ℕ) → IsEnded line → ended_lines (line ++ rest) ≡ line ∷ ended_lines rest
ended_then line rest (front, none, is) =
    ap (λ t. ended_lines (t ++ rest)) is ∙ ap ended_lines (append_assoc front (0x0A ∷ []) rest) ∙ ended_first front rest none
    ∙ ap (λ t. t ∷ ended_lines rest) (sym is)

pub alone : (lines : List (List ℕ)) → AreLines lines → ended_lines (concat lines) ≡ lines
alone [] are = refl
alone (line ∷ []) are =
    elim are [
      | inl ended ↦ ended_then line [] ended
      | inr unended ↦ ap ended_lines (append-nil line) ∙ unended_last line unended.0 unended.1
    ]
alone (line ∷ next ∷ lines) are = ended_then line (concat (next ∷ lines)) are.0 ∙ ap (λ t. line ∷ t) (alone (next ∷ lines) are.1)

-- the first line feed stands after them
pub feed_after : (line rest : List ℕ) → HasNoFeed line → position_or_len is_feed (line ++ rest) ≡ length line + position_or_len is_feed rest
feed_after [] rest none = omega arith
feed_after (b ∷ line) rest none =
    let first = parts b line none in
    let other : is_feed b ≡ false = first.0 in
    rw other (let later = feed_after line rest first.1 in omega (arith, later))

before_feed : (line rest : List ℕ) → HasNoFeed line → position_or_len is_feed rest ≡ 0 → before_first is_feed (line ++ rest) ≡ line
before_feed line rest none there =
    ap (λ n. take n (line ++ rest)) (feed_after line rest none ∙ ap (λ n. length line + n) there ∙ add-zero (length line)) ∙ take-append_seam line rest

pub content-feed : (line : List ℕ) → HasNoFeed line → content (line ++ 0x0A ∷ []) ≡ strip_carriage_return line
content-feed line none = ap strip_carriage_return (before_feed line (0x0A ∷ []) none refl)

pub content-last : (line : List ℕ) → HasNoFeed line → content line ≡ strip_carriage_return line
content-last line none = ap content (sym (append-nil line)) ∙ ap strip_carriage_return (before_feed line [] none refl)

pub strip-return : (line : List ℕ) → strip_carriage_return (line ++ 0x0D ∷ []) ≡ line
strip-return line =
    let long : length (line ++ 0x0D ∷ []) - 1 ≡ length line = omega (arith, length-append line (0x0D ∷ [])) in
    let at : get_or (line ++ 0x0D ∷ []) (length line) 0 ≡ 0x0D = last_at line in
    rw (long, at) (take-append_seam line (0x0D ∷ []))
  where
    last_at : (xs : List ℕ) → get_or (xs ++ 0x0D ∷ []) (length xs) 0 ≡ 0x0D
    last_at [] = refl
    last_at (x ∷ xs) = last_at xs

-- The lines of a table's text.
use Rattle.std.proofs.Common.{◌≡◌, ℕ, suc, ◌+◌, ◌-◌, ◌*◌, ◌<◌, ◌≤◌, Bool, true, false, not, ◌&&◌, ◌||◌, cond, List, [], ◌∷◌, ◌++◌, length, map, take, drop, refl, sym, ap, ◌∙◌, add-one, take_all, inl, inr, arith}
use Rattle.std.proofs.Math.Numerals.{one-add}
use Rattle.std.proofs.lemmas.Bool.{cases_Bool}
use Rattle.std.proofs.lemmas.List.{drop_all, length-drop, length-take}
use Rattle.std.specs.List.{before_first, list_any, position_or_len}
use Rattle.std.specs.Str.Lines.{strip_carriage_return}
use Rattle.obs_text.specs.Lines.{content, ended_lines, is_feed, lines_of}
use Rattle.obs_text.specs.inner.Lines.{after_line}
use Rattle.obs_text.proofs.LineLemmas.{ended_lines-first, feed_at, lines_of-first}
use Rattle.obs_matpower.specs.Lines.{is_percent, without_comment}
use Rattle.obs_matpower.specs.Rows.{line_rows}
use Rattle.obs_matpower.specs.inner.Rows.{code_of, first_code, rows_from, rows_of}
use Rattle.obs_matpower.proofs.SplitLemmas.{line_rows-nil}

-- the first line has a line feed exactly where the bytes have one
pub feed_in_first : (bytes : List ℕ) → list_any is_feed (take (suc (feed_at bytes)) bytes) ≡ list_any is_feed bytes
feed_in_first [] = refl
feed_in_first (b ∷ bs) =
    elim (cases_Bool (is_feed b)) [
      | inl e ↦ rw e refl
      | inr e ↦ rw (e, one-add (feed_at bs)) (feed_in_first bs)
    ]

-- bytes without a line feed are one line
pub no_feed : (bytes : List ℕ) → list_any is_feed bytes ≡ false → feed_at bytes ≡ length bytes
no_feed [] none = refl
no_feed (b ∷ bs) none =
    elim (cases_Bool (is_feed b)) [
      | inl e ↦ (let t : (is_feed b || list_any is_feed bs) ≡ false = none in let u : (true || list_any is_feed bs) ≡ false = rw e at t in cc)
      | inr e ↦ (let t : (is_feed b || list_any is_feed bs) ≡ false = none in rw e (ap (λ n. 1 + n) (no_feed bs (rw e at t)) ∙ one-add (length bs)))
    ]

-- the choice of a line's content where its line feed is there or isn't
choice : (ended feed : Bool) (a b c d : List ℕ) → (feed ≡ false → a ≡ b) → c ≡ d → cond (ended && not feed) a c ≡ cond (ended && not feed) b d
choice true true a b c d whole same = same
choice true false a b c d whole same = whole refl
choice false feed a b c d whole same = same

content-first : (b : ℕ) (bs : List ℕ) → content (take (suc (feed_at (b ∷ bs))) (b ∷ bs)) ≡ strip_carriage_return (before_first is_feed (b ∷ bs))
content-first b bs =
    let lines : content (take (suc (feed_at (b ∷ bs))) (b ∷ bs)) ∷ map content (ended_lines (drop (suc (feed_at (b ∷ bs))) (b ∷ bs))) ≡ strip_carriage_return (before_first is_feed (b ∷ bs)) ∷ lines_of (after_line (b ∷ bs)) =
    sym (ap (map content) (ended_lines-first b bs)) ∙ lines_of-first b bs in
    cc

code-first : (ended : Bool) (b : ℕ) (bs : List ℕ) → code_of ended (take (suc (feed_at (b ∷ bs))) (b ∷ bs)) ≡ first_code ended (b ∷ bs)
code-first ended b bs =
    let bytes = b ∷ bs in
    let first = take (suc (feed_at bytes)) bytes in
    ap (λ feed. without_comment (cond (ended && not feed) first (content first))) (feed_in_first bytes)
    ∙ ap without_comment
    (choice ended (list_any is_feed bytes) first bytes (content first) (strip_carriage_return (before_first is_feed bytes))
    (λ none. take_all (suc (feed_at bytes)) bytes (let all = no_feed bytes none in omega (arith, all))) (content-first b bs))

no_code : (ended : Bool) → first_code ended [] ≡ []
no_code true = refl
no_code false = refl

-- the rows of a text are those of its first line, and those of the lines after it
pub rows_of-first : (ended : Bool) (at : ℕ) (text : List ℕ) → rows_of ended at text ≡ line_rows at (first_code ended text) ++ rows_of ended (at + 1) (after_line text)
unfolding rows_from
rows_of-first ended at [] = sym (ap (λ code. line_rows at code ++ []) (no_code ended) ∙ ap (λ rows. rows ++ []) (line_rows-nil at))
rows_of-first ended at (b ∷ bs) =
    ap (rows_from ended at) (ended_lines-first b bs)
    ∙ ap (λ code. line_rows at code ++ rows_of ended (at + 1) (drop (suc (feed_at (b ∷ bs))) (b ∷ bs))) (code-first ended b bs)
    ∙ ap (λ n. line_rows at (first_code ended (b ∷ bs)) ++ rows_of ended (at + 1) (drop n (b ∷ bs))) (sym (add-one (feed_at (b ∷ bs))))

-- ---- what the first line leaves

pub after_line-none : (text : List ℕ) → list_any is_feed text ≡ false → after_line text ≡ []
after_line-none text none = drop_all (feed_at text + 1) text (let all = no_feed text none in omega (arith, all))

-- the content of the first line, where the text has one
pub first_content : (text line rest : List ℕ) → lines_of text ≡ line ∷ lines_of rest → line ≡ strip_carriage_return (before_first is_feed text)
first_content [] line rest is = (let e : lines_of [] ≡ line ∷ lines_of rest = is in cc)
first_content (b ∷ bs) line rest is =
    let same : strip_carriage_return (before_first is_feed (b ∷ bs)) ∷ lines_of (after_line (b ∷ bs)) ≡ line ∷ lines_of rest = sym (lines_of-first b bs) ∙ is in
    cc

pub first_code-content : (ended : Bool) (text : List ℕ) → (ended && not (list_any is_feed text)) ≡ false → first_code ended text ≡ without_comment (strip_carriage_return (before_first is_feed text))
first_code-content ended text is = ap (λ b. without_comment (cond b text (strip_carriage_return (before_first is_feed text)))) is

pub first_code-whole : (ended : Bool) (text : List ℕ) → (ended && not (list_any is_feed text)) ≡ true → first_code ended text ≡ without_comment text
first_code-whole ended text is = ap (λ b. without_comment (cond b text (strip_carriage_return (before_first is_feed text)))) is

-- ---- lengths

take_le : (n : ℕ) (xs : List ℕ) → length (take n xs) ≤ length xs
take_le n xs = omega (arith, length-take n xs)

take_few : (n : ℕ) (xs : List ℕ) → length (take n xs) ≤ n
take_few n xs = omega (arith, length-take n xs)

stripped_le : (line : List ℕ) → length (strip_carriage_return line) ≤ length line
stripped_le line = by _
  where
    by : (b : Bool) → length (cond b (take (length line - 1) line) line) ≤ length line
    by true = take_le (length line - 1) line
    by false = omega arith

-- the first line without its comment is no longer than what is before the lines after it
first_code_le : (ended : Bool) (text : List ℕ) → length (first_code ended text) + length (after_line text) ≤ length text
first_code_le ended text =
    elim (cases_Bool (ended && not (list_any is_feed text))) [
      | inl e ↦
          let none = feed_none ended (list_any is_feed text) e in
          omega (arith, ap length (first_code-whole ended text e), take_le (position_or_len is_percent text) text, ap length (after_line-none text none))
      | inr e ↦
          omega (
            arith,
            ap length (first_code-content ended text e),
            take_le (position_or_len is_percent (strip_carriage_return (before_first is_feed text))) (strip_carriage_return (before_first is_feed text)),
            stripped_le (before_first is_feed text),
            take_le (feed_at text) text,
            take_few (feed_at text) text,
            length-drop (feed_at text + 1) text,
          )
    ]
  where
    feed_none : (ended feed : Bool) → (ended && not feed) ≡ true → feed ≡ false
    feed_none true true is = cc
    feed_none true false is = refl
    feed_none false feed is = cc

pub after_line_less : (text : List ℕ) → 0 < length text → length (after_line text) < length text
after_line_less text some = omega (arith, length-drop (feed_at text + 1) text)

-- reading a line leaves fewer bytes, where those of a line that is read count once and the others twice
pub line_less : (ended : Bool) (text : List ℕ) → 0 < length text → length (first_code ended text) + 2 * length (after_line text) < 2 * length text
line_less ended text some = omega (arith, first_code_le ended text, after_line_less text some)

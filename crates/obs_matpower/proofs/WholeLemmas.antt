-- The rows of a table's text are those of the whole lines of the file.
use Rattle.std.proofs.Common.{◌≡◌, ℕ, suc, ◌+◌, ◌-◌, Bool, true, false, not, ◌&&◌, ◌||◌, cond, ◌≤◌, zero, Some, None, subst, List, [], ◌∷◌, ◌++◌, length, take, drop, is_none, refl, sym, ap, ◌∙◌, append-nil, take_all, inl, inr, arith}
use Rattle.std.proofs.Math.Numerals.{one-add}
use Rattle.std.proofs.lemmas.Bool.{cases_Bool, false≢true}
use Rattle.std.proofs.Math.Seq.{drop-append_seam}
use Rattle.std.proofs.lemmas.List.{drop_all, length-drop, length-take-le, take-append-drop}
use Rattle.std.proofs.lemmas.List.Folds.{list_any-append}
use Rattle.std.proofs.Math.Bool.{and-false}
use Rattle.std.specs.List.{after_first, before_first, concat, list_any, position_or_len}
use Rattle.std.specs.Str.Lines.{strip_carriage_return}
use Rattle.obs_text.specs.Lines.{content, ended_lines, is_feed}
use Rattle.obs_text.specs.inner.Lines.{after_line}
use Rattle.obs_text.proofs.LineLemmas.{ended_lines-first, feed_at}
use Rattle.obs_case.proofs.NameLemmas.{place-absent, place-there}
use Rattle.obs_matpower.specs.declared.fault.MatFault.{MatFault}
use Rattle.obs_matpower.specs.declared.part.MatTable.{MatTable}
use Rattle.obs_matpower.specs.Lines.{closes, is_closing, is_opening, is_percent, opens, without_comment}
use Rattle.obs_matpower.specs.Rows.{line_rows}
use Rattle.obs_matpower.specs.inner.Rows.{first_code, rows_from, rows_of}
use Rattle.obs_matpower.specs.Table.{after_opening, end_of, from_first, is_ended, is_there, line_of, missing, left_open}
use Rattle.obs_matpower.specs.inner.Table.{text_of, until_closing}
use Rattle.obs_matpower.specs.Whole.{numbered_rows, table_lines, table_rows}
use Rattle.obs_matpower.proofs.FoundLemmas.{any_in_front, before-longer}
use Rattle.obs_matpower.proofs.TextLemmas.{after_line-none, feed_in_first, no_feed, first_code-content, first_code-whole, rows_of-first}

-- ---- where a `]` ends a line

pub none_before : (p : ℕ → Bool) (xs : List ℕ) → list_any p (before_first p xs) ≡ false
none_before p [] = refl
none_before p (x ∷ xs) =
    elim (cases_Bool (p x)) [
      | inl e ↦ rw e refl
      | inr e ↦ rw e (ap (λ n. list_any p (take n (x ∷ xs))) (one-add (position_or_len p xs)) ∙ rw e (none_before p xs))
    ]

pub none_in_front : (p : ℕ → Bool) (n : ℕ) (xs : List ℕ) → list_any p xs ≡ false → list_any p (take n xs) ≡ false
none_in_front p n xs none = by (list_any p (take n xs)) refl
  where
    by : (b : Bool) → list_any p (take n xs) ≡ b → list_any p (take n xs) ≡ false
    by false e = e
    by true e =
        (let t : list_any p xs ≡ true = ap (list_any p) (sym (take-append-drop n xs)) ∙ list_any-append p (take n xs) (drop n xs) ∙ ap (λ b. b || list_any p (drop n xs)) e in
        let u : true ≡ false = sym t ∙ none in cc)

-- a front of a list that has a `]` has the list's first one
pub first_in_front : (p : ℕ → Bool) (n : ℕ) (xs : List ℕ) → list_any p (take n xs) ≡ true → before_first p xs ≡ before_first p (take n xs)
first_in_front p n xs some = ap (before_first p) (sym (take-append-drop n xs)) ∙ before-longer p (take n xs) (drop n xs) some

pub before-all : (p : ℕ → Bool) (xs : List ℕ) → list_any p xs ≡ false → before_first p xs ≡ xs
before-all p xs none = take_all (position_or_len p xs) xs (omega (arith, place-absent p xs none))

-- the front of a line that a carriage return is no part of
pub strip_front : (xs : List ℕ) → (n : ℕ) × (strip_carriage_return xs ≡ take n xs)
strip_front xs = by _
  where
    by : (b : Bool) → (n : ℕ) × (cond b (take (length xs - 1) xs) xs ≡ take n xs)
    by true = (length xs - 1, refl)
    by false = (length xs, sym (take_all (length xs) xs (omega arith)))

-- the first byte that passes a test, where one does before the comment, is the first of the whole line
module _ (p : ℕ → Bool) (line : List ℕ) (is : list_any p (without_comment (content line)) ≡ true) where
  -- the line up to its line feed
  abbrev pub before_feed : List ℕ
  before_feed = before_first is_feed line

  in_content : list_any p (content line) ≡ true
  in_content = any_in_front p (position_or_len is_percent (content line)) (content line) is

  in_before_feed : list_any p before_feed ≡ true
  in_before_feed = let s = strip_front before_feed in any_in_front p s.0 before_feed (ap (list_any p) (sym s.1) ∙ in_content)

  pub in_line : list_any p line ≡ true
  in_line = any_in_front p (position_or_len is_feed line) line in_before_feed

  pub first-code : before_first p line ≡ before_first p (without_comment (content line))
  first-code =
      first_in_front p (position_or_len is_feed line) line in_before_feed
      ∙ (let s = strip_front before_feed in first_in_front p s.0 before_feed (ap (list_any p) (sym s.1) ∙ in_content) ∙ ap (before_first p) (sym s.1))
      ∙ first_in_front p (position_or_len is_percent (content line)) (content line) is

-- what stands before the `]`
abbrev pub cut_of : List ℕ → List ℕ
cut_of line = before_first is_closing line

module _ (line : List ℕ) (is : closes line ≡ true) where
  abbrev pub cut : List ℕ
  cut = cut_of line

  pub no_feed_in_cut : list_any is_feed cut ≡ false
  no_feed_in_cut =
      let front = before_first is_feed line in
      ap (list_any is_feed) (first_in_front is_closing (position_or_len is_feed line) line (in_before_feed is_closing line is))
      ∙ none_in_front is_feed (position_or_len is_closing front) front (none_before is_feed line)

  pub no_comment_in_cut : list_any is_percent cut ≡ false
  no_comment_in_cut =
      ap (list_any is_percent) (first-code is_closing line is)
      ∙ none_in_front is_percent (position_or_len is_closing (without_comment (content line))) (without_comment (content line)) (none_before is_percent (content line))

  pub cut_code : without_comment cut ≡ cut
  cut_code = before-all is_percent cut no_comment_in_cut

-- ---- lines that go on, and the last one

-- the first place that passes stays where it is when what follows it is something else
place_kept : (p : ℕ → Bool) (xs ys : List ℕ) → list_any p xs ≡ true → position_or_len p (take (suc (position_or_len p xs)) xs ++ ys) ≡ position_or_len p xs
place_kept p [] ys some = absurd (false≢true some)
place_kept p (x ∷ xs) ys some =
    elim (cases_Bool (p x)) [
      | inl e ↦ rw e refl
      | inr e ↦
          let t : (p x || list_any p xs) ≡ true = some in
          let later = place_kept p xs ys (rw e at t) in
          rw (e, one-add (position_or_len p xs)) (ap (λ n. 1 + n) later ∙ one-add (position_or_len p xs))
    ]

-- the first line of bytes and those after it, where it has a line feed
module _ (ended : Bool) (bytes more : List ℕ) (some : list_any is_feed bytes ≡ true) where
  abbrev pub first : List ℕ
  first = take (suc (feed_at bytes)) bytes

  long : length first ≡ feed_at bytes + 1
  long = length-take-le (suc (feed_at bytes)) bytes (let there = place-there is_feed bytes some in omega (arith, there)) ∙ omega arith

  pub line_after : after_line (first ++ more) ≡ more
  line_after =
      ap (λ n. drop (n + 1) (first ++ more)) (place_kept is_feed bytes more some)
      ∙ ap (λ n. drop n (first ++ more)) (sym long) ∙ drop-append_seam first more

  has_feed : list_any is_feed (first ++ more) ≡ true
  has_feed = list_any-append is_feed first more ∙ ap (λ b. b || list_any is_feed more) (feed_in_first bytes ∙ some)

  pub code_first : first_code ended (first ++ more) ≡ without_comment (content first)
  code_first =
      first_code-content ended (first ++ more) (ap (λ b. ended && not b) has_feed ∙ and-false ended)
      ∙ ap (λ l. without_comment (strip_carriage_return l)) (before-longer is_feed first more (feed_in_first bytes ∙ some))

-- ---- the rows of lines

abbrev pub AreRows : ℕ → List ℕ → Type 0
AreRows at bytes = rows_of (list_any closes (ended_lines bytes)) at (concat (until_closing (ended_lines bytes))) ≡ numbered_rows at (table_lines (ended_lines bytes))

-- a line with the `]`
closed_line : (at : ℕ) (line : List ℕ) → closes line ≡ true → rows_of true at (cut_of line ++ []) ≡ line_rows at (cut_of line) ++ []
unfolding rows_from
closed_line at line e =
    let c = cut_of line in
    let last : ended_lines (after_line c) ≡ [] = ap ended_lines (after_line-none c (no_feed_in_cut line e)) in
    ap (rows_of true at) (append-nil c) ∙ rows_of-first true at c
    ∙ ap (λ code. line_rows at code ++ rows_from true (at + 1) (ended_lines (after_line c))) (first_code-whole true c (ap not (no_feed_in_cut line e)) ∙ cut_code line e)
    ∙ ap (λ ls. line_rows at c ++ rows_from true (at + 1) ls) last

-- the last line, without a line feed
last_line : (at : ℕ) (bytes : List ℕ) → list_any is_feed bytes ≡ false → rows_of false at (bytes ++ []) ≡ line_rows at (without_comment (content bytes)) ++ []
unfolding rows_from
last_line at bytes none =
    ap (rows_of false at) (append-nil bytes) ∙ rows_of-first false at bytes
    ∙ ap (λ rest. line_rows at (without_comment (content bytes)) ++ rows_from false (at + 1) (ended_lines rest)) (after_line-none bytes none)

last_by : (at : ℕ) (bytes line rest : List ℕ) → list_any is_feed bytes ≡ false → line ≡ bytes → rest ≡ []
    → rows_of (list_any closes (ended_lines rest)) at (line ++ concat (until_closing (ended_lines rest))) ≡ line_rows at (without_comment (content line)) ++ numbered_rows (at + 1) (table_lines (ended_lines rest))
unfolding numbered_rows
last_by at bytes line rest none all gone =
    subst (λ r. rows_of (list_any closes (ended_lines r)) at (line ++ concat (until_closing (ended_lines r))) ≡ line_rows at (without_comment (content line)) ++ numbered_rows (at + 1) (table_lines (ended_lines r))) (sym gone)
    (subst (λ l. rows_of false at (l ++ []) ≡ line_rows at (without_comment (content l)) ++ []) (sym all) (last_line at bytes none))

more_lines : (ended : Bool) (at : ℕ) (bytes more : List ℕ) → list_any is_feed bytes ≡ true
    → rows_of ended at (take (suc (feed_at bytes)) bytes ++ more) ≡ line_rows at (without_comment (content (take (suc (feed_at bytes)) bytes))) ++ rows_of ended (at + 1) more
more_lines ended at bytes more some =
    let text = take (suc (feed_at bytes)) bytes ++ more in
    rows_of-first ended at text
    ∙ ap (λ code. line_rows at code ++ rows_of ended (at + 1) (after_line text)) (code_first ended bytes more some)
    ∙ ap (λ rest. line_rows at (without_comment (content (take (suc (feed_at bytes)) bytes))) ++ rows_of ended (at + 1) rest) (line_after ended bytes more some)

-- the rows of lines, of which the first is followed by others
module _ (at : ℕ) (line : List ℕ) (lines : List (List ℕ)) where
  abbrev pub Rows : List (List ℕ) → Type 0
  Rows all = rows_of (list_any closes all) at (concat (until_closing all)) ≡ numbered_rows at (table_lines all)

  pub from_closed : closes line ≡ true → Rows (line ∷ lines)
  unfolding numbered_rows
  from_closed e = rw e (closed_line at line e)

  pub from_open : closes line ≡ false → rows_of (list_any closes lines) at (line ++ concat (until_closing lines)) ≡ line_rows at (without_comment (content line)) ++ numbered_rows (at + 1) (table_lines lines) → Rows (line ∷ lines)
  unfolding numbered_rows
  from_open e rows = rw e rows

rows_by : (n at : ℕ) (bytes : List ℕ) → length bytes ≤ n → AreRows at bytes
unfolding numbered_rows rows_from
rows_by n at [] few = refl
rows_by zero at (b ∷ bs) few = absurd (omega arith)
rows_by (suc n) at (b ∷ bs) few =
    let bytes = b ∷ bs in
    let line = take (suc (feed_at bytes)) bytes in
    let rest = drop (suc (feed_at bytes)) bytes in
    let lines = ended_lines rest in
    let later = rows_by n (at + 1) rest (omega (arith, length-drop (suc (feed_at bytes)) bytes)) in
    subst (Rows at line lines) (sym (ended_lines-first b bs))
    (elim (cases_Bool (closes line)) [
      | inl e ↦ from_closed at line lines e
      | inr e ↦ from_open at line lines e
          (elim (cases_Bool (list_any is_feed bytes)) [
            | inl some ↦ more_lines (list_any closes lines) at bytes (concat (until_closing lines)) some
                ∙ ap (λ rows. line_rows at (without_comment (content line)) ++ rows) later
            | inr none ↦
                last_by at bytes line rest none (take_all (suc (feed_at bytes)) bytes (let end = no_feed bytes none in omega (arith, end)))
                (drop_all (suc (feed_at bytes)) bytes (let end = no_feed bytes none in omega (arith, end)))
          ])
    ])

pub rows_are : (at : ℕ) (bytes : List ℕ) → AreRows at bytes
rows_are at bytes = rows_by (length bytes) at bytes (omega arith)

-- ---- the rows of a table

-- where there is no table there are no rows
no_table : (table : MatTable) (bytes : List ℕ) → is_there table bytes ≡ false → after_opening table bytes ≡ []
no_table table bytes none =
    let lines = ended_lines bytes in
    let gone : from_first (opens table) lines ≡ [] = drop_all (position_or_len (opens table) lines) lines (omega (arith, place-absent (opens table) lines none)) in
    ap (λ ls. after_first is_opening (concat ls)) gone

-- the flag with which the text of a table is read
flag : (there ended : Bool) (a b : MatFault) → there ≡ true → is_none (cond (not there) (Some a) (cond (not ended) (Some b) None)) ≡ ended
flag true true a b is = refl
flag true false a b is = refl
flag false ended a b is = cc

nothing : (ended : Bool) (at : ℕ) → rows_of ended at [] ≡ numbered_rows at []
unfolding numbered_rows rows_from
nothing ended at = refl

pub table_rows-are : (table : MatTable) (bytes : List ℕ) → rows_of (is_none (end_of table bytes)) (line_of table bytes) (text_of table bytes) ≡ table_rows table bytes
table_rows-are table bytes =
    elim (cases_Bool (is_there table bytes)) [
      | inl there ↦ ap (λ ended. rows_of ended (line_of table bytes) (text_of table bytes)) (flag (is_there table bytes) (is_ended table bytes) (missing table) (left_open table) there)
          ∙ rows_are (line_of table bytes) (after_opening table bytes)
      | inr none ↦ by (is_none (end_of table bytes)) (line_of table bytes) (after_opening table bytes) (no_table table bytes none)
    ]
  where
    by : (ended : Bool) (at : ℕ) (after : List ℕ) → after ≡ [] → rows_of ended at (concat (until_closing (ended_lines after))) ≡ numbered_rows at (table_lines (ended_lines after))
    by ended at after none = subst (λ a. rows_of ended at (concat (until_closing (ended_lines a))) ≡ numbered_rows at (table_lines (ended_lines a))) (sym none) (nothing ended at)

-- Lines that were looked for, and the text between two of them.
use Rattle.std.proofs.Common.{◌≡◌, ℕ, ◌+◌, ◌-◌, ◌≤◌, Bool, true, false, ◌||◌, cond, List, [], ◌∷◌, ◌++◌, length, take, drop, refl, sym, ap, ◌∙◌, append_assoc, append-nil, length-append, inl, inr, arith}
use Rattle.std.proofs.Math.Numerals.{one-add}
use Rattle.std.proofs.Math.Seq.{take-append_seam}
use Rattle.std.proofs.lemmas.Bool.{cases_Bool, false≢true}
use Rattle.std.proofs.lemmas.List.{append_cancel_left, drop_all, length-drop, take-append-drop}
use Rattle.std.proofs.lemmas.List.Folds.{concat-append, list_any-append}
use Rattle.std.specs.List.{after_first, before_first, concat, list_any, position_or_len}
use Rattle.std.specs.Str.Lines.{strip_carriage_return}
use Rattle.obs_text.specs.Lines.{content, ended_lines, is_feed, lines_of}
use Rattle.obs_text.specs.inner.Lines.{after_line}
use Rattle.obs_text.proofs.LineLaws.{joined}
use Rattle.obs_case.proofs.NameLemmas.{place-absent, place-there}
use Rattle.obs_bus_branch.proofs.SearchLemmas.{IsNextLine, Searched, found, next_line, passed_more}
use Rattle.obs_matpower.specs.declared.part.MatTable.{MatTable}
use Rattle.obs_matpower.specs.Lines.{closes, is_closing, is_opening, is_percent, opens}
use Rattle.obs_matpower.specs.Table.{from_first, is_there}
use Rattle.obs_matpower.specs.inner.Table.{IsFound, text_of, until_closing}

module _ (p : List ℕ → Bool) where
  -- what stands before the line and from it on are the bytes
  pub parts_are : (bytes : List ℕ) → concat (before_first p (ended_lines bytes)) ++ concat (from_first p (ended_lines bytes)) ≡ bytes
  parts_are bytes =
      let lines = ended_lines bytes in
      let at = position_or_len p lines in
      sym (concat-append (take at lines) (drop at lines)) ∙ ap concat (take-append-drop at lines) ∙ joined bytes

  pub found_whole : (bytes front rest : List ℕ) (number : ℕ) → IsFound p bytes front rest number → front ++ rest ≡ bytes
  found_whole bytes front rest number is =
      ap (λ t. t ++ rest) is.before ∙ ap (λ t. concat (before_first p (ended_lines bytes)) ++ t) is.from ∙ parts_are bytes

  module _ (all left line rest : List ℕ) (passed : ℕ) (so_far : Searched p all left passed) (is : lines_of left ≡ line ∷ lines_of rest) (after : rest ≡ after_line left) where
    abbrev pub next : (ended : List ℕ) × IsNextLine left line rest ended
    next = next_line left line rest is after

    pub searched_on : (content next.0 ≡ line → p next.0 ≡ false) → Searched p all rest (passed + 1)
    searched_on other = passed_more p all left line rest passed next.0 so_far next.1 (other next.1.content)

    pub line_found : (content next.0 ≡ line → p next.0 ≡ true) → IsFound p all (take (length all - length left) all) left (passed + 1)
    line_found here =
        let lines = ended_lines all in
        let f = found p all left line rest passed next.0 so_far next.1 (here next.1.content) in
        let front = take (length all - length left) all in
        let size : length all ≡ length (concat so_far.0) + length left = ap length so_far.1.bytes ∙ length-append (concat so_far.0) left in
        let short : length all - length left ≡ length (concat so_far.0) = omega arith in
        let front_is : front ≡ concat so_far.0 = ap (λ k. take k all) short ∙ ap (take (length (concat so_far.0))) so_far.1.bytes ∙ take-append_seam (concat so_far.0) left in
        let whole : front ++ left ≡ all = ap (λ t. t ++ left) front_is ∙ sym so_far.1.bytes in
        record {
          some = f.some;
          before = f.before;
          from = append_cancel_left (concat (before_first p lines)) left (concat (from_first p lines))
              (ap (λ t. t ++ left) (sym f.before) ∙ whole ∙ sym (parts_are all));
          at = omega (arith, f.number, length-drop (position_or_len p lines + 1) lines, place-there p lines f.some);
        }

-- ---- bytes of a list that pass a test

pub any_in_front : (p : ℕ → Bool) (n : ℕ) (xs : List ℕ) → list_any p (take n xs) ≡ true → list_any p xs ≡ true
any_in_front p n xs some =
    ap (list_any p) (sym (take-append-drop n xs)) ∙ list_any-append p (take n xs) (drop n xs) ∙ ap (λ b. b || list_any p (drop n xs)) some

pub any_strip : (p : ℕ → Bool) (xs : List ℕ) → list_any p (strip_carriage_return xs) ≡ true → list_any p xs ≡ true
any_strip p xs some = by _ some
  where
    by : (b : Bool) → list_any p (cond b (take (length xs - 1) xs) xs) ≡ true → list_any p xs ≡ true
    by true is = any_in_front p (length xs - 1) xs is
    by false is = is

-- a line that ends a table has a `]`
pub has_closing : (line : List ℕ) → closes line ≡ true → list_any is_closing line ≡ true
has_closing line is =
    any_in_front is_closing (position_or_len is_feed line) line
    (any_strip is_closing (before_first is_feed line)
    (any_in_front is_closing (position_or_len is_percent (content line)) (content line) is))

pub before-longer : (p : ℕ → Bool) (xs ys : List ℕ) → list_any p xs ≡ true → before_first p (xs ++ ys) ≡ before_first p xs
before-longer p [] ys some = absurd (false≢true some)
before-longer p (x ∷ xs) ys some =
    elim (cases_Bool (p x)) [
      | inl e ↦ rw e refl
      | inr e ↦
          let t : (p x || list_any p xs) ≡ true = some in
          rw (e, one-add (position_or_len p (xs ++ ys)), one-add (position_or_len p xs)) (ap (λ r. x ∷ r) (before-longer p xs ys (rw e at t)))
    ]

-- ---- the text of a table

pub text_missing : (table : MatTable) (bytes : List ℕ) → is_there table bytes ≡ false → text_of table bytes ≡ []
text_missing table bytes none =
    let lines = ended_lines bytes in
    let gone : from_first (opens table) lines ≡ [] = drop_all (position_or_len (opens table) lines) lines (omega (arith, place-absent (opens table) lines none)) in
    ap (λ ls. concat (until_closing (ended_lines (after_first is_opening (concat ls))))) gone

pub until_none : (lines : List (List ℕ)) → list_any closes lines ≡ false → until_closing lines ≡ lines
until_none [] none = refl
until_none (line ∷ lines) none =
    elim (cases_Bool (closes line)) [
      | inl e ↦ (let t : (closes line || list_any closes lines) ≡ false = none in let u : (true || list_any closes lines) ≡ false = rw e at t in cc)
      | inr e ↦ (let t : (closes line || list_any closes lines) ≡ false = none in rw e (ap (λ ls. line ∷ ls) (until_none lines (rw e at t))))
    ]

pub text_open : (after : List ℕ) → list_any closes (ended_lines after) ≡ false → concat (until_closing (ended_lines after)) ≡ after
text_open after none = ap concat (until_none (ended_lines after) none) ∙ joined after

until_some : (lines : List (List ℕ)) → list_any closes lines ≡ true → concat (until_closing lines) ≡ concat (before_first closes lines) ++ before_first is_closing (concat (from_first closes lines))
until_some [] some = absurd (false≢true some)
until_some (line ∷ lines) some =
    elim (cases_Bool (closes line)) [
      | inl e ↦ rw e (append-nil (before_first is_closing line) ∙ sym (before-longer is_closing line (concat lines) (has_closing line e)))
      | inr e ↦
          let t : (closes line || list_any closes lines) ≡ true = some in
          rw (e, one-add (position_or_len closes lines)) (ap (λ r. line ++ r) (until_some lines (rw e at t))
          ∙ sym (append_assoc line (concat (before_first closes lines)) (before_first is_closing (concat (from_first closes lines)))))
    ]

-- the bytes up to the `]` of a line that was found
module _ (after front rest : List ℕ) (number : ℕ) (is : IsFound closes after front rest number) where
  abbrev pub inside : List ℕ
  inside = before_first is_closing rest

  parts : after ≡ (front ++ inside) ++ drop (position_or_len is_closing rest) rest
  parts =
      sym (found_whole closes after front rest number is) ∙ ap (λ t. front ++ t) (sym (take-append-drop (position_or_len is_closing rest) rest))
      ∙ sym (append_assoc front inside (drop (position_or_len is_closing rest) rest))

  pub text_fits : length front + length inside ≤ length after
  text_fits = omega (arith, ap length parts, length-append (front ++ inside) (drop (position_or_len is_closing rest) rest), length-append front inside)

  pub text_closed : take (length front + length inside) after ≡ concat (until_closing (ended_lines after))
  text_closed =
      ap (take (length front + length inside)) parts
      ∙ ap (λ n. take n ((front ++ inside) ++ drop (position_or_len is_closing rest) rest)) (sym (length-append front inside))
      ∙ take-append_seam (front ++ inside) (drop (position_or_len is_closing rest) rest)
      ∙ ap (λ t. t ++ inside) is.before
      ∙ ap (λ t. concat (before_first closes (ended_lines after)) ++ before_first is_closing t) is.from
      ∙ sym (until_some (ended_lines after) is.some)

-- what follows the `[` is no longer than the whole
pub after_few : (p : List ℕ → Bool) (bytes front rest : List ℕ) (number : ℕ) → IsFound p bytes front rest number → length (after_first is_opening rest) ≤ length bytes
after_few p bytes front rest number is =
    omega (arith, length-drop (position_or_len is_opening rest + 1) rest, ap length (found_whole p bytes front rest number is), length-append front rest)

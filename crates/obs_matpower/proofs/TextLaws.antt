-- Where the text of a table stands in the bytes.
use Rattle.std.proofs.Common.{◌≡◌, ◌≢◌, ℕ, ◌-◌, ◌==◌, cond, length, length-append, take, arith, Bool, true, false, ◌||◌, List, [], ◌∷◌, ◌++◌, get_or, refl, sym, ap, ◌∙◌, subst, append_assoc, append-nil, inl, inr}
use Rattle.std.proofs.Math.Bool.{or-true}
use Rattle.std.proofs.Math.Numerals.{one-add}
use Rattle.std.proofs.Math.Seq.{get_or-append_seam}
use Rattle.std.proofs.lemmas.Bool.{cases_Bool, eqb-true, false≢true}
use Rattle.std.proofs.lemmas.List.Folds.{list_any-append}
use Rattle.std.proofs.lemmas.List.Sums.{passes_at_first, split_at_first}
use Rattle.std.specs.List.{after_first, before_first, concat, list_any, position_or_len}
use Rattle.std.specs.Str.Lines.{strip_carriage_return}
use Rattle.obs_text.specs.Laws.{HasNoFeed}
use Rattle.obs_text.specs.inner.Laws.{AreLines, IsEnded}
use Rattle.obs_text.specs.Lines.{content, ended_lines, is_feed}
use Rattle.obs_text.proofs.LineLaws.{alone, are_lines, ended_first, joined, unended_last}
use Rattle.obs_case.proofs.NameLemmas.{place-there}
use Rattle.obs_matpower.specs.inner.Laws.{EndsAt, IsAssignedTo, TextStandsBetween}
use Rattle.obs_matpower.specs.Lines.{closes, is_closing, is_opening, is_percent, opens, without_comment}
use Rattle.obs_matpower.specs.Table.{after_opening, from_first, is_ended}
use Rattle.obs_matpower.specs.inner.Table.{until_closing}
use Rattle.obs_matpower.proofs.FoundLemmas.{before-longer, has_closing, parts_are, until_none}
use Rattle.obs_matpower.proofs.OpeningLemmas.{opened}
use Rattle.obs_matpower.proofs.WholeLemmas.{before-all, no_comment_in_cut, no_feed_in_cut, none_before, none_in_front, strip_front}

-- the first line that passes a test stands at the front of the lines from it on
first_line : (p : List ℕ → Bool) (lines : List (List ℕ)) → list_any p lines ≡ true → (line : List ℕ) × (rest : List (List ℕ)) × (from_first p lines ≡ line ∷ rest) × (p line ≡ true)
first_line p [] some = absurd (false≢true some)
first_line p (line ∷ lines) some =
    elim (cases_Bool (p line)) [
      | inl e ↦ (line, lines, rw e refl, e)
      | inr e ↦
          let t : (p line || list_any p lines) ≡ true = some in
          let later = first_line p lines (rw e at t) in
          (later.0, later.1, rw (e, one-add (position_or_len p lines)) later.2, later.3)
    ]

-- bytes are what stands before the first byte that passes, that byte, and what stands after it
cut_there : (p : ℕ → Bool) (byte : ℕ) (xs : List ℕ) → ((b : ℕ) → p b ≡ true → b ≡ byte) → list_any p xs ≡ true → xs ≡ before_first p xs ++ byte ∷ after_first p xs
cut_there p byte xs only some =
    let at = place-there p xs some in
    split_at_first p xs 0 at ∙ ap (λ b. before_first p xs ++ b ∷ after_first p xs) (only (get_or xs (position_or_len p xs) 0) (passes_at_first p xs 0 at))

-- ---- the text of a table

-- lines are those up to the `]` and what stands from it on
closing_back : (lines : List (List ℕ)) → list_any closes lines ≡ true → (back : List ℕ) × (concat lines ≡ concat (until_closing lines) ++ 0x5D ∷ back)
closing_back [] some = absurd (false≢true some)
closing_back (line ∷ lines) some =
    elim (cases_Bool (closes line)) [
      | inl e ↦
          let cut = cut_there is_closing 0x5D line (λ b is. eqb-true b 0x5D is) (has_closing line e) in
          let front = before_first is_closing line in
          let back = after_first is_closing line in (
            back ++ concat lines,
            rw e (ap (λ l. l ++ concat lines) cut ∙ append_assoc front (0x5D ∷ back) (concat lines) ∙ ap (λ f. f ++ 0x5D ∷ (back ++ concat lines)) (sym (append-nil front))),
          )
      | inr e ↦
          let t : (closes line || list_any closes lines) ≡ true = some in
          let later = closing_back lines (rw e at t) in (
            later.0,
            rw e (ap (λ l. line ++ l) later.1 ∙ sym (append_assoc line (concat (until_closing lines)) (0x5D ∷ later.0))),
          )
    ]

ends_at : (lines : List (List ℕ)) (ended : Bool) → list_any closes lines ≡ ended → (back : List ℕ) × (concat lines ≡ concat (until_closing lines) ++ back) × EndsAt ended back
ends_at lines true is = (let b = closing_back lines is in (0x5D ∷ b.0, b.1, (b.0, refl)))
ends_at lines false is = ([], ap concat (sym (until_none lines is)) ∙ sym (append-nil (concat (until_closing lines))), refl)

-- ---- no `]` stands in the text

no_feed_from : (bytes : List ℕ) → list_any is_feed bytes ≡ false → HasNoFeed bytes
no_feed_from [] none = refl
no_feed_from (b ∷ bs) none =
    elim (cases_Bool (is_feed b)) [
      | inl e ↦ (let t : (is_feed b || list_any is_feed bs) ≡ false = none in let u : (true || list_any is_feed bs) ≡ false = rw e at t in absurd (false≢true (sym u)))
      | inr e ↦ (let t : (is_feed b || list_any is_feed bs) ≡ false = none in let later = no_feed_from bs (rw e at t) in rw e later)
    ]

-- bytes without a line feed and without a `]`
one_line : (bytes : List ℕ) → list_any is_feed bytes ≡ false → list_any is_closing bytes ≡ false → list_any closes (ended_lines bytes) ≡ false
one_line [] feed closing = refl
one_line (b ∷ bs) feed closing =
    let bytes : List ℕ = b ∷ bs in
    let strip = strip_front (before_first is_feed bytes) in
    let in_content : list_any is_closing (content bytes) ≡ false =
    ap (list_any is_closing) strip.1
    ∙ none_in_front is_closing strip.0 (before_first is_feed bytes) (none_in_front is_closing (position_or_len is_feed bytes) bytes closing) in
    let in_code : closes bytes ≡ false = none_in_front is_closing (position_or_len is_percent (content bytes)) (content bytes) in_content in
    ap (list_any closes) (unended_last bytes (no_feed_from bytes feed) (λ is. cc)) ∙ rw in_code refl

-- a line that is ended, and what is none behind it
ended_before : (line rest : List ℕ) → IsEnded line → closes line ≡ false → list_any closes (ended_lines rest) ≡ false → list_any closes (ended_lines (line ++ rest)) ≡ false
ended_before line rest (front, none, is) open_line later =
    ap (λ l. list_any closes (ended_lines (l ++ rest))) is ∙ ap (λ l. list_any closes (ended_lines l)) (append_assoc front (0x0A ∷ []) rest)
    ∙ ap (list_any closes) (ended_first front rest none) ∙ ap (λ l. closes l || list_any closes (ended_lines rest)) (sym is) ∙ rw (open_line, later) refl

-- what stands before the `]` of a line
closed_here : (line : List ℕ) → closes line ≡ true → list_any closes (ended_lines (before_first is_closing line ++ [])) ≡ false
closed_here line is =
    let cut = before_first is_closing line in
    ap (λ l. list_any closes (ended_lines l)) (append-nil cut) ∙ one_line cut (no_feed_in_cut line is) (none_before is_closing line)

none_in_text : (lines : List (List ℕ)) → AreLines lines → list_any closes (ended_lines (concat (until_closing lines))) ≡ false
none_in_text [] are = refl
none_in_text (line ∷ []) are =
    elim (cases_Bool (closes line)) [
      | inl e ↦ rw e (closed_here line e)
      | inr e ↦ rw e (ap (list_any closes) (alone (line ∷ []) are) ∙ rw e refl)
    ]
none_in_text (line ∷ next ∷ lines) are =
    elim (cases_Bool (closes line)) [
      | inl e ↦ rw e (closed_here line e)
      | inr e ↦ rw e (ended_before line (concat (until_closing (next ∷ lines))) are.0 e (none_in_text (next ∷ lines) are.1))
    ]

-- ---- the `]` behind the text

bracket_is : (bytes : List ℕ) → strip_carriage_return (bytes ++ 0x5D ∷ []) ≡ bytes ++ 0x5D ∷ []
bracket_is bytes =
    let all = bytes ++ 0x5D ∷ [] in
    let last : length all - 1 ≡ length bytes = omega (arith, length-append bytes (0x5D ∷ [])) in
    let byte : get_or all (length all - 1) 0 ≡ 0x5D = ap (λ k. get_or all k 0) last ∙ get_or-append_seam bytes 0x5D [] 0 in
    ap (λ b. cond (b == 13) (take (length all - 1) all) all) byte

-- bytes without a line feed and a comment, and a `]` behind them
bracket_closes : (bytes : List ℕ) → list_any is_feed bytes ≡ false → list_any is_percent bytes ≡ false → list_any closes (ended_lines ((bytes ++ []) ++ 0x5D ∷ [])) ≡ true
bracket_closes bytes feed percent =
    let line = bytes ++ 0x5D ∷ [] in
    let no_feed : list_any is_feed line ≡ false = list_any-append is_feed bytes (0x5D ∷ []) ∙ rw feed refl in
    let no_percent : list_any is_percent line ≡ false = list_any-append is_percent bytes (0x5D ∷ []) ∙ rw percent refl in
    let inside : content line ≡ line = ap strip_carriage_return (before-all is_feed line no_feed) ∙ bracket_is bytes in
    let code : without_comment (content line) ≡ line = ap without_comment inside ∙ before-all is_percent line no_percent in
    let is : closes line ≡ true = ap (list_any is_closing) code ∙ list_any-append is_closing bytes (0x5D ∷ []) ∙ or-true (list_any is_closing bytes) in
    let none : line ≢ [] = λ e. (let l = ap length e in let k = length-append bytes (0x5D ∷ []) in absurd (omega (arith, l, k))) in
    ap (λ l. list_any closes (ended_lines (l ++ 0x5D ∷ []))) (append-nil bytes) ∙ ap (list_any closes) (unended_last line (no_feed_from line no_feed) none) ∙ rw is refl

-- a line that is ended, and what has one behind it
ended_behind : (line rest : List ℕ) → IsEnded line → list_any closes (ended_lines rest) ≡ true → list_any closes (ended_lines (line ++ rest)) ≡ true
ended_behind line rest (front, none, is) later =
    ap (λ l. list_any closes (ended_lines (l ++ rest))) is ∙ ap (λ l. list_any closes (ended_lines l)) (append_assoc front (0x0A ∷ []) rest)
    ∙ ap (list_any closes) (ended_first front rest none) ∙ ap (λ b. closes (front ++ 0x0A ∷ []) || b) later ∙ or-true (closes (front ++ 0x0A ∷ []))

closed_behind : (lines : List (List ℕ)) → AreLines lines → list_any closes lines ≡ true → list_any closes (ended_lines (concat (until_closing lines) ++ 0x5D ∷ [])) ≡ true
closed_behind [] are some = absurd (false≢true some)
closed_behind (line ∷ []) are some =
    elim (cases_Bool (closes line)) [
      | inl e ↦ rw e (bracket_closes (before_first is_closing line) (no_feed_in_cut line e) (no_comment_in_cut line e))
      | inr e ↦ (let t : (closes line || false) ≡ true = some in let u : (false || false) ≡ true = rw e at t in absurd (false≢true u))
    ]
closed_behind (line ∷ next ∷ lines) are some =
    elim (cases_Bool (closes line)) [
      | inl e ↦ rw e (bracket_closes (before_first is_closing line) (no_feed_in_cut line e) (no_comment_in_cut line e))
      | inr e ↦
          let t : (closes line || list_any closes (next ∷ lines)) ≡ true = some in
          let rest = concat (until_closing (next ∷ lines)) in
          rw e (ap (λ l. list_any closes (ended_lines l)) (append_assoc line rest (0x5D ∷ []))
          ∙ ended_behind line (rest ++ 0x5D ∷ []) are.0 (closed_behind (next ∷ lines) are.1 (rw e at t)))
    ]

pub TextStandsBetween-holds : TextStandsBetween
TextStandsBetween-holds which bytes there =
    let lines = ended_lines bytes in
    let start = concat (from_first (opens which) lines) in
    let before = concat (before_first (opens which) lines) in
    let after = after_opening which bytes in
    let first = first_line (opens which) lines there in
    let line = first.0 in
    let is_there = opened which line first.3 in
    let shape : start ≡ line ++ concat first.1 = ap concat first.2 in
    let front = before_first is_opening start in
    let front_is : front ≡ before_first is_opening line = ap (before_first is_opening) shape ∙ before-longer is_opening line (concat first.1) is_there.0 in
    let some : list_any is_opening start ≡ true =
    ap (list_any is_opening) shape ∙ list_any-append is_opening line (concat first.1) ∙ ap (λ b. b || list_any is_opening (concat first.1)) is_there.0 in
    let cut : start ≡ front ++ 0x5B ∷ after = cut_there is_opening 0x5B start (λ b is. eqb-true b 0x5B is) some in
    let end = ends_at (ended_lines after) (is_ended which bytes) refl in (
      front,
      end.0,
      subst (IsAssignedTo which) (sym front_is) is_there.1,
      end.2,
      none_in_text (ended_lines after) (are_lines after),
      closed_behind (ended_lines after) (are_lines after),
      sym (parts_are (opens which) bytes) ∙ ap (λ s. before ++ s) (cut ∙ ap (λ a. front ++ 0x5B ∷ a) (sym (joined after) ∙ end.1)),
    )

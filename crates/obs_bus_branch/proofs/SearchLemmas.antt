-- The search for a line.
use Rattle.std.proofs.Common.{◌≡◌, ℕ, suc, ◌+◌, ◌-◌, ◌≤◌, Bool, true, false, ◌||◌, inl, inr, List, [], ◌∷◌, ◌++◌, length, map, take, drop, refl, sym, ap, ◌∙◌, append_assoc, append-nil, length-append, add-one, arith}
use Rattle.std.proofs.Math.Numerals.{one-add}
use Rattle.std.proofs.Math.Seq.{take-append_seam, drop-append-add}
use Rattle.std.proofs.lemmas.Bool.{cases_Bool}
use Rattle.std.proofs.lemmas.List.{take-append-drop}
use Rattle.std.proofs.lemmas.List.Folds.{list_any-append, concat-append}
use Rattle.std.specs.List.{after_first, before_first, concat, list_any, position_or_len}
use Rattle.obs_text.specs.Lines.{content, ended_lines, lines_of}
use Rattle.obs_text.specs.inner.Lines.{after_line}
use Rattle.obs_text.specs.Limits.{most_file_bytes}
use Rattle.obs_text.proofs.LineLemmas.{ended_lines-first, feed_at}
use Rattle.obs_text.proofs.LineLaws.{joined, length-ended_lines}
use Rattle.obs_bus_branch.specs.inner.Search.{IsFirstLine}

-- the first line of bytes: with its end, and without it
pub record IsNextLine (all line rest ended : List ℕ) : Type 0 where
  pub lines : ended_lines all ≡ ended ∷ ended_lines rest
  pub content : content ended ≡ line
  pub bytes : all ≡ ended ++ rest

pub next_line : (bytes line rest : List ℕ) → lines_of bytes ≡ line ∷ lines_of rest → rest ≡ after_line bytes → (ended : List ℕ) × IsNextLine bytes line rest ended
next_line [] line rest is after = absurd (let e : lines_of [] ≡ line ∷ lines_of rest = is in cc)
next_line (b ∷ bs) line rest is after =
    let whole = b ∷ bs in
    let n = suc (feed_at whole) in
    let here : rest ≡ drop n whole = after ∙ ap (λ k. drop k whole) (add-one (feed_at whole)) in
    let lines : ended_lines whole ≡ take n whole ∷ ended_lines rest = ended_lines-first b bs ∙ ap (λ r. take n whole ∷ ended_lines r) (sym here) in (
      take n whole,
      record {
        lines = lines;
        content = (let both : content (take n whole) ∷ map content (ended_lines rest) ≡ line ∷ lines_of rest = sym (ap (map content) lines) ∙ is in cc);
        bytes = sym (take-append-drop n whole) ∙ ap (λ r. take n whole ++ r) (sym here);
      },
    )

-- the lines passed so far, none of which passes the test, and the bytes that are left
pub record Passed (p : List ℕ → Bool) (all left : List ℕ) (passed : ℕ) (front : List (List ℕ)) : Type 0 where
  pub lines : ended_lines all ≡ front ++ ended_lines left
  pub none : list_any p front ≡ false
  pub count : length front ≡ passed
  pub bytes : all ≡ concat front ++ left

abbrev pub Searched : (List ℕ → Bool) → List ℕ → List ℕ → ℕ → Type 0
Searched p bytes left passed = (front : List (List ℕ)) × Passed p bytes left passed front

module _ (p : List ℕ → Bool) where
  -- where a test first passes
  first_at : (front : List (List ℕ)) (line : List ℕ) (rest : List (List ℕ)) → list_any p front ≡ false → p line ≡ true → position_or_len p (front ++ line ∷ rest) ≡ length front
  first_at [] line rest none here = rw here refl
  first_at (x ∷ front) line rest none here =
      elim (cases_Bool (p x)) [
        | inl e ↦ absurd (let e' : (p x || list_any p front) ≡ false = none in let t : (true || list_any p front) ≡ false = rw e at e' in cc)
        | inr e ↦
            let others : list_any p front ≡ false = (let e' : (p x || list_any p front) ≡ false = none in rw e at e') in
            rw e (one-add _ ∙ ap suc (first_at front line rest others here))
      ]

  pub passed_more : (all left line rest : List ℕ) (passed : ℕ) (ended : List ℕ) → Searched p all left passed → IsNextLine left line rest ended → p ended ≡ false → Searched p all rest (passed + 1)
  passed_more all left line rest passed ended (front, so_far) next other = (
    front ++ ended ∷ [],
    record {
      lines = so_far.lines ∙ ap (λ r. front ++ r) next.lines ∙ sym (append_assoc front (ended ∷ []) (ended_lines rest));
      none = list_any-append p front (ended ∷ []) ∙ rw (so_far.none, other) refl;
      count = omega (arith, so_far.count, length-append front (ended ∷ []));
      bytes = so_far.bytes ∙ ap (λ r. concat front ++ r) next.bytes ∙ sym (append_assoc (concat front) ended rest)
          ∙ ap (λ r. (concat front ++ r) ++ rest) (sym (append-nil ended)) ∙ ap (λ r. r ++ rest) (sym (concat-append front (ended ∷ [])));
    },
  )

  pub passed_room : (all left : List ℕ) (passed : ℕ) → Searched p all left passed → length all ≤ most_file_bytes → passed ≤ most_file_bytes
  passed_room all left passed (front, so_far) few = omega (arith, so_far.count, ap length so_far.lines, length-append front (ended_lines left), length-ended_lines all)

  -- the line looked for is the next one
  pub found : (all left line rest : List ℕ) (passed : ℕ) (ended : List ℕ) → Searched p all left passed → IsNextLine left line rest ended → p ended ≡ true → IsFirstLine p all (take (length all - length left) all) rest (passed + 1)
  found all left line rest passed ended (front, so_far) next here =
      let lines : ended_lines all ≡ front ++ ended ∷ ended_lines rest = so_far.lines ∙ ap (λ r. front ++ r) next.lines in
      let at : position_or_len p (ended_lines all) ≡ length front = ap (position_or_len p) lines ∙ first_at front ended (ended_lines rest) so_far.none here in
      let before : before_first p (ended_lines all) ≡ front =
      ap (λ n. take n (ended_lines all)) at ∙ ap (take (length front)) lines ∙ take-append_seam front (ended ∷ ended_lines rest) in
      let after : after_first p (ended_lines all) ≡ ended_lines rest =
      ap (λ n. drop (n + 1) (ended_lines all)) at ∙ ap (drop (length front + 1)) lines ∙ drop-append-add front (ended ∷ ended_lines rest) 1 in
      record {
        some = ap (list_any p) lines ∙ list_any-append p front (ended ∷ ended_lines rest) ∙ rw (so_far.none, here) refl;
        before = (let size : length all ≡ length (concat front) + length left = ap length so_far.bytes ∙ length-append (concat front) left in
            let n : length all - length left ≡ length (concat front) = omega arith in
            ap (λ k. take k all) n ∙ ap (take (length (concat front))) so_far.bytes ∙ take-append_seam (concat front) left ∙ ap concat (sym before));
        after = sym (ap concat after ∙ joined rest);
        within = omega (arith, ap length so_far.bytes, length-append (concat front) left, ap length next.bytes, length-append ended rest);
        number = omega (arith, so_far.count, ap length after, ap length lines, length-append front (ended ∷ ended_lines rest));
      }

-- Some of the lines of bytes, with their ends.
use Rattle.std.proofs.Common.{◌≡◌, ℕ, suc, zero, false, inl, inr, List, [], ◌∷◌, take, drop, refl, sym, ap, ◌∙◌}
use Rattle.std.proofs.Math.Seq.{take-nil}
use Rattle.std.proofs.lemmas.Bool.{cases_Bool}
use Rattle.std.specs.List.{concat, onto_first}
use Rattle.obs_text.specs.Lines.{ended_lines, is_feed}
use Rattle.obs_text.proofs.LineLemmas.{ended_lines-first, feed_at}
use Rattle.obs_text.proofs.LineLaws.{joined, onto_first-joined}

take-onto_first : (b n : ℕ) (parts : List (List ℕ)) → take (suc n) (onto_first b parts) ≡ onto_first b (take (suc n) parts)
take-onto_first b n [] = ap (λ r. (b ∷ []) ∷ r) (take-nil n)
take-onto_first b n (part ∷ parts) = refl

ended_lines-other : (b : ℕ) (bs : List ℕ) → is_feed b ≡ false → ended_lines (b ∷ bs) ≡ onto_first b (ended_lines bs)
ended_lines-other b bs e = rw e refl

-- the first lines of bytes are the lines of what they are joined
pub ended_lines-take : (n : ℕ) (bytes : List ℕ) → ended_lines (concat (take n (ended_lines bytes))) ≡ take n (ended_lines bytes)
ended_lines-take zero bytes = refl
ended_lines-take (suc n) [] = refl
ended_lines-take (suc n) (b ∷ bs) =
    elim (cases_Bool (is_feed b)) [
      | inl e ↦ rw e (rw e (ap (λ r. (b ∷ []) ∷ r) (ended_lines-take n bs)))
      | inr e ↦
          let front = take (suc n) (ended_lines bs) in
          let same : take (suc n) (ended_lines (b ∷ bs)) ≡ onto_first b front = ap (take (suc n)) (ended_lines-other b bs e) ∙ take-onto_first b n (ended_lines bs) in
          ap (λ r. ended_lines (concat r)) same ∙ ap ended_lines (onto_first-joined b front)
          ∙ ended_lines-other b (concat front) e ∙ ap (onto_first b) (ended_lines-take (suc n) bs) ∙ sym same
    ]

-- and the lines from one on are the lines of what they are joined
pub ended_lines-drop : (n : ℕ) (bytes : List ℕ) → ended_lines (concat (drop n (ended_lines bytes))) ≡ drop n (ended_lines bytes)
ended_lines-drop zero bytes = ap ended_lines (joined bytes)
ended_lines-drop (suc n) [] = refl
ended_lines-drop (suc n) (b ∷ bs) =
    let after = drop (suc (feed_at (b ∷ bs))) (b ∷ bs) in
    let same : drop (suc n) (ended_lines (b ∷ bs)) ≡ drop n (ended_lines after) = ap (drop (suc n)) (ended_lines-first b bs) in
    ap (λ r. ended_lines (concat r)) same ∙ ended_lines-drop n after ∙ sym same

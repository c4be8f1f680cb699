-- The positions of what passes a test, where one entry of the list was set.
use Rattle.std.proofs.Common.{◌≡◌, ℕ, zero, suc, ◌+◌, ◌<◌, ◌≤◌, Bool, true, false, cond, ltb, inl, inr, Option, None, List, [], ◌∷◌, ◌++◌, length, get_or, set, take, drop, refl, ap, ◌∙◌, arith}
use Rattle.std.specs.Prelude.{All}
use Rattle.std.proofs.lemmas.Bool.{cases_Bool, cond-true, cond-false}
use Rattle.std.proofs.lemmas.Bool.Decides.{nat_tests}
use Rattle.std.proofs.lemmas.List.{length-take-le, set_split}
use Rattle.std.proofs.lemmas.List.Elements.{All-cons}
use Rattle.obs_graph.specs.declared.Ends.{Ends}
use Rattle.obs_graph.specs.Positions.{branches_at, has_end, positions_from}

-- an entry that fails the test, in the place of another that does, leaves the positions
pub positions_from-set : {X : Type 0} (test : X → Bool) (i : ℕ) (xs : List X) (at : ℕ) (y d : X) → test (get_or xs at d) ≡ false → test y ≡ false → positions_from test i (set xs at y) ≡ positions_from test i xs
positions_from-set test i [] zero y d was is = refl
positions_from-set test i [] (suc at) y d was is = refl
positions_from-set test i (x ∷ xs) zero y d was is = rw (was, is) refl
positions_from-set test i (x ∷ xs) (suc at) y d was is = rw (positions_from-set test (suc i) xs at y d was is) refl

-- the branches at a vertex that was no end of the changed one and is none
pub branches_at-set : (ends : List (Option Ends)) (at : ℕ) (after : Option Ends) (v : ℕ) → has_end v (get_or ends at None) ≡ false → has_end v after ≡ false → branches_at (set ends at after) v ≡ branches_at ends v
branches_at-set ends at after v was is = positions_from-set (has_end v) 0 ends at after None was is

-- the positions of a list, and of what stands behind it
positions_from-append : {X : Type 0} (test : X → Bool) (i : ℕ) (xs ys : List X) → positions_from test i (xs ++ ys) ≡ positions_from test i xs ++ positions_from test (i + length xs) ys
positions_from-append test i [] ys = let e : i + 0 ≡ i = omega arith in rw e refl
positions_from-append test i (x ∷ xs) ys =
    let e : i + suc (length xs) ≡ suc i + length xs = omega arith in
    let rest = positions_from-append test (suc i) xs ys in
    elim (cases_Bool (test x)) [
      | inl t ↦ rw (t, e) (ap (λ l. i ∷ l) rest)
      | inr f ↦ rw (f, e) rest
    ]

-- positions are those of the list
positions_in : {X : Type 0} (test : X → Bool) (i : ℕ) (xs : List X) → All (λ p. (i ≤ p) × (p < i + length xs)) (positions_from test i xs)
positions_in test i [] k d l = absurd (omega arith)
positions_in test i (x ∷ xs) k d l =
    let later : All (λ p. (i ≤ p) × (p < i + suc (length xs))) (positions_from test (suc i) xs) = λ k d l.
    let r = positions_in test (suc i) xs k d l in
    (omega (arith, r.0), omega (arith, r.1)) in
    let all : All (λ p. (i ≤ p) × (p < i + suc (length xs))) (positions_from test i (x ∷ xs)) =
    elim (cases_Bool (test x)) [
      | inl t ↦ rw t (All-cons (λ p. (i ≤ p) × (p < i + suc (length xs))) i (positions_from test (suc i) xs) (omega arith, omega arith) later)
      | inr f ↦ rw f later
    ] in
    all k d l

module _ {X : Type 0} (test : X → Bool) (e : ℕ) (xs : List X) where
  -- the positions before e of what passes the test, and those behind e
  abbrev pub positions_before : List ℕ
  positions_before = positions_from test 0 (take e xs)

  abbrev pub positions_behind : List ℕ
  positions_behind = positions_from test (suc e) (drop (suc e) xs)

  pub before_low : e ≤ length xs → All (λ p. ltb p e ≡ true) positions_before
  before_low le k d l =
      let r = positions_in test 0 (take e xs) k d l in
      below _ (omega (arith, r.1, length-take-le e xs le))
    where
      below : (p : ℕ) → p < e → ltb p e ≡ true
      below p l = grind (arith, nat_tests)

  not_below : (p : ℕ) → e ≤ p → ltb p e ≡ false
  not_below p l = grind (arith, nat_tests)

  pub behind_high : All (λ p. ltb p e ≡ false) positions_behind
  behind_high k d l = let r = positions_in test (suc e) (drop (suc e) xs) k d l in not_below _ (omega (arith, r.0))

  pub from_high : All (λ p. ltb p e ≡ false) (e ∷ positions_behind)
  from_high = All-cons (λ p. ltb p e ≡ false) e positions_behind (not_below e (omega arith)) behind_high

  -- where the entry at e is y
  positions_split : (y : X) → e < length xs → positions_from test 0 (set xs e y) ≡ positions_before ++ cond (test y) (e ∷ positions_behind) positions_behind
  positions_split y l =
      let at : 0 + length (take e xs) ≡ e = omega (arith, length-take-le e xs (omega arith)) in
      ap (positions_from test 0) (set_split xs e y l)
      ∙ (positions_from-append test 0 (take e xs) (y ∷ drop (suc e) xs) ∙ ap (λ i. positions_before ++ positions_from test i (y ∷ drop (suc e) xs)) at)

  pub positions_with : (y : X) → e < length xs → test y ≡ true → positions_from test 0 (set xs e y) ≡ positions_before ++ e ∷ positions_behind
  positions_with y l t = positions_split y l ∙ ap (λ ps. positions_before ++ ps) (cond-true (test y) (e ∷ positions_behind) positions_behind t)

  pub positions_without : (y : X) → e < length xs → test y ≡ false → positions_from test 0 (set xs e y) ≡ positions_before ++ positions_behind
  positions_without y l f = positions_split y l ∙ ap (λ ps. positions_before ++ ps) (cond-false (test y) (e ∷ positions_behind) positions_behind f)

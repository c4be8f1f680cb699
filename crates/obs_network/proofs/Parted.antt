-- Lists that are parted by a number of each element: the parts have no more elements than the whole.
use Rattle.std.proofs.Common.{ℕ, zero, suc, ◌+◌, ◌≤◌, Bool, not, List, [], ◌∷◌, length, filter, ap, inl, inr, arith}
use Rattle.std.specs.Prelude.{◌==◌, nat_lt}
use Rattle.std.specs.List.{range_with_len, sum_by}
use Rattle.std.proofs.lemmas.Bool.{cases_eq, cases_lt, eq-eqb, le-ltb, lt-ltb, ne_eqb}
use Rattle.std.proofs.lemmas.List.Sums.{sum_by-cons}
use Rattle.obs_matroid.proofs.Lists.{length-split}

module _ {X : Type 0} (f : X → ℕ) where
  abbrev at_number : ℕ → X → Bool
  at_number a x = f x == a

  abbrev from_on : ℕ → X → Bool
  from_on a x = not (nat_lt (f x) a)

  -- those of a number, and those of the numbers behind it
  one_part : (a : ℕ) (xs : List X) → length (filter (at_number a) xs) + length (filter (from_on (a + 1)) xs) ≤ length (filter (from_on a) xs)
  one_part a [] = omega arith
  one_part a (x ∷ xs) =
      let rest = one_part a xs in
      elim (cases_eq (f x) a) [
        | inl e ↦ rw (eq-eqb (f x) a e, ap not (lt-ltb (f x) (a + 1) (omega (arith, e))), ap not (le-ltb (f x) a (omega (arith, e)))) (omega (arith, rest))
        | inr n ↦ elim (cases_lt (f x) a) [
          | inl low ↦ rw (ne_eqb (f x) a n, ap not (lt-ltb (f x) (a + 1) (omega (arith, low))), ap not (lt-ltb (f x) a low)) (omega (arith, rest))
          | inr high ↦ rw (ne_eqb (f x) a n, ap not (le-ltb (f x) (a + 1) (omega (arith, n, high))), ap not (le-ltb (f x) a high)) (omega (arith, rest))
        ]
      ]

  parts_from : (xs : List X) (a n : ℕ) → sum_by (λ c. length (filter (at_number c) xs)) (range_with_len a n) ≤ length (filter (from_on a) xs)
  parts_from xs a zero = omega arith
  parts_from xs a (suc n) =
      let rest = parts_from xs (a + 1) n in
      let here = one_part a xs in
      let all = sum_by-cons (λ c. length (filter (at_number c) xs)) a (range_with_len (a + 1) n) in
      omega (arith, rest, here, all)

  pub parts_few : (xs : List X) (n : ℕ) → sum_by (λ c. length (filter (λ x. f x == c) xs)) (range_with_len 0 n) ≤ length xs
  parts_few xs n =
      let parts = parts_from xs 0 n in
      let all = length-split (from_on 0) xs in
      omega (arith, parts, all)

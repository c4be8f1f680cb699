-- The first elements of a list.
use Rattle.std.proofs.Common.{◌≡◌, ℕ, zero, suc, ◌+◌, ◌<◌, List, [], ◌∷◌, ◌++◌, length, take, get_or, subst, inl, inr, ◌⊎◌, arith}
use Rattle.std.proofs.lemmas.List.{take_more}
use Rattle.obs_matroid.specs.Lists.{In, IsRising}
use Rattle.obs_matroid.proofs.Lists.{In-append_cases}

-- one of the first k + 1 elements is one of the first k, or the next one
pub In-take_more : (xs : List ℕ) (k d y : ℕ) → k < length xs → In y (take (k + 1) xs) → In y (take k xs) ⊎ (y ≡ get_or xs k d)
In-take_more xs k d y l i =
    let j : In y (take k xs ++ get_or xs k d ∷ []) = subst (λ ys. In y ys) (take_more xs k d l) i in
    elim (In-append_cases y (take k xs) (get_or xs k d ∷ []) j) [
      | inl h ↦ inl h
      | inr h ↦ elim h [ inl e ↦ inr e | inr n ↦ absurd n ]
    ]

-- where the elements rise, one below that at k is one of the first k
pub In-take_lower : (xs : List ℕ) (k d y : ℕ) → IsRising xs → k < length xs → In y xs → y < get_or xs k d → In y (take k xs)
In-take_lower [] k d y r l i low = absurd i
In-take_lower (x ∷ xs) zero d y r l (inl e) low = absurd (omega (arith, e, low))
In-take_lower (x ∷ xs) zero d y r l (inr i) low = let h = r.0 y i in absurd (omega (arith, h, low))
In-take_lower (x ∷ xs) (suc k) d y r l (inl e) low = inl e
In-take_lower (x ∷ xs) (suc k) d y r l (inr i) low = inr (In-take_lower xs k d y r.1 (omega (arith, l)) i low)

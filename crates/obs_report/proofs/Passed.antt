-- Lines for those items of a list that pass a test, one behind the other.
use Rattle.std.proofs.Common.{◌≡◌, ◌∙◌, ℕ, ◌+◌, ◌-◌, ◌<◌, ◌≤◌, suc, Bool, true, false, List, [], ◌∷◌, ◌++◌, filter, refl, sym, ap, append_assoc, append-nil, inl, inr, arith}
use Rattle.std.specs.List.{flat_map, range_with_len}
use Rattle.std.proofs.lemmas.Bool.{cases_Bool}

-- the lines of the first item and those of the others
module _ {X : Type 0} (f : X → List ℕ) (p : X → Bool) where
  pub first_passed : (x : X) (xs : List X) → flat_map f (filter p (x ∷ [])) ++ flat_map f (filter p xs) ≡ flat_map f (filter p (x ∷ xs))
  first_passed x xs =
      elim (cases_Bool (p x)) [
        | inl e ↦ rw e (ap (λ t. t ++ flat_map f (filter p xs)) (append-nil (f x)))
        | inr e ↦ rw e refl
      ]

  -- those of one item
  pub passed : (x : X) → p x ≡ true → flat_map f (filter p (x ∷ [])) ≡ f x
  passed x e = rw e (append-nil (f x))

  pub passed_over : (x : X) → p x ≡ false → flat_map f (filter p (x ∷ [])) ≡ []
  passed_over x e = rw e refl

module _ (f : ℕ → List ℕ) (p : ℕ → Bool) where
  -- the lines of one number more of a row
  pub row_more : (i n : ℕ) (text whole : List ℕ) → i < n → text ++ flat_map f (filter p (range_with_len i (n - i))) ≡ whole
      → (text ++ flat_map f (filter p (i ∷ []))) ++ flat_map f (filter p (range_with_len (i + 1) (n - (i + 1)))) ≡ whole
  row_more i n text whole l all =
      let rest = range_with_len (i + 1) (n - (i + 1)) in
      let one : n - i ≡ suc (n - (i + 1)) = omega arith in
      let here : flat_map f (filter p (i ∷ [])) ++ flat_map f (filter p rest) ≡ flat_map f (filter p (range_with_len i (n - i))) =
      first_passed f p i rest ∙ ap (λ k. flat_map f (filter p (range_with_len i k))) (sym one) in
      append_assoc text (flat_map f (filter p (i ∷ []))) (flat_map f (filter p rest)) ∙ (ap (λ r. text ++ r) here ∙ all)

  -- no number is left
  pub row_all : (i n : ℕ) (text whole : List ℕ) → n ≤ i → text ++ flat_map f (filter p (range_with_len i (n - i))) ≡ whole → text ≡ whole
  row_all i n text whole l all =
      let none : n - i ≡ 0 = omega arith in
      sym (append-nil text) ∙ (ap (λ k. text ++ flat_map f (filter p (range_with_len i k))) (sym none) ∙ all)

-- The sum of what layers of prices show, against a sum of prices.
use Rattle.std.proofs.Common.{◌≡◌, ℕ, ◌+◌, ◌*◌, ◌-◌, ◌≤◌, List, [], ◌∷◌, length, refl, sym, ap, ◌∙◌, inl, inr, ◌⊎◌, arith, not, ltb}
use Rattle.std.specs.List.{filter, sum_by}
use Rattle.std.proofs.Math.Nat.{mul-le-mul_right, suc-mul}
use Rattle.std.proofs.lemmas.Bool.{lt-ltb, le-ltb, cases_lt}
use Rattle.std.proofs.lemmas.List.Sums.{sum_by-cons}
use Rattle.obs_matroid.specs.Lists.{In}
use Rattle.obs_matroid.specs.Placement.{Layer, RunOn, layers_sum}
use Rattle.obs_matroid.specs.inner.Placement.{RunsThrough}

-- the candidates with a price that is not below a number
abbrev pub not_below : (ℕ → ℕ) → ℕ → List ℕ → List ℕ
not_below price to = filter (λ c. not (ltb (price c) to))

module _ (price : ℕ → ℕ) where
  -- the sum of what each price is above f
  abbrev pub above : ℕ → List ℕ → ℕ
  above f xs = sum_by (λ c. price c - f) xs

  -- one layer from the sum
  above_step : (f t : ℕ) (xs : List ℕ) → f ≤ t → length (not_below price t xs) * (t - f) + above t xs ≤ above f xs
  above_step f t [] l = omega arith
  above_step f t (c ∷ xs) l =
      let h = above_step f t xs l in
      let a = sum_by-cons (λ c. price c - f) c xs in
      let b = sum_by-cons (λ c. price c - t) c xs in
      elim (cases_lt (price c) t) [
        | inl s ↦ rw (lt-ltb (price c) t s) (omega (arith, h, a, b, s, l))
        | inr s ↦ rw (le-ltb (price c) t s) (let m = suc-mul (length (not_below price t xs)) (t - f) in omega (arith, h, a, b, s, l, m))
      ]

  -- where as many are not below each layer's price as the layer says, the layers' sum is at most the sum of the prices
  pub layers_below : (needed : ℕ) (xs : List ℕ) (ls : List Layer) (f : ℕ) → RunOn f ls
      → ((l : Layer) → In l ls → needed - l.rank - l.outside ≤ length (not_below price l.to xs)) → layers_sum needed ls ≤ above f xs
  layers_below needed xs [] f r h = omega arith
  layers_below needed xs (l ∷ ls) f r h =
      let k = layers_below needed xs ls l.to r.2 (λ m i. h m (inr i)) in
      let s = above_step f l.to xs (let w = r.1 in omega (arith, w)) in
      let m = mul-le-mul_right (l.to - l.from) (h l (inl refl)) in
      let e : length (not_below price l.to xs) * (l.to - l.from) ≡ length (not_below price l.to xs) * (l.to - f) = ap (λ (x : ℕ). length (not_below price l.to xs) * (l.to - x)) r.0 in
      omega (arith, k, s, m, e)

  -- the same with equality, where no price lies inside a layer and none above the last
  above_step_exact : (f t : ℕ) (xs : List ℕ) → f ≤ t → ((c : ℕ) → In c xs → (price c ≤ f) ⊎ (t ≤ price c)) → length (not_below price t xs) * (t - f) + above t xs ≡ above f xs
  above_step_exact f t [] l n = omega arith
  above_step_exact f t (c ∷ xs) l n =
      let h = above_step_exact f t xs l (λ x i. n x (inr i)) in
      let a = sum_by-cons (λ c. price c - f) c xs in
      let b = sum_by-cons (λ c. price c - t) c xs in
      let k = n c (inl refl) in
      elim (cases_lt (price c) t) [
        | inl s ↦ rw (lt-ltb (price c) t s) (omega (arith, h, a, b, s, l, k))
        | inr s ↦ rw (le-ltb (price c) t s) (let m = suc-mul (length (not_below price t xs)) (t - f) in omega (arith, h, a, b, s, l, m))
      ]

  above_none : (f : ℕ) (xs : List ℕ) → ((c : ℕ) → In c xs → price c ≤ f) → above f xs ≡ 0
  above_none f [] h = refl
  above_none f (c ∷ xs) h =
      let k = above_none f xs (λ x i. h x (inr i)) in
      let a = sum_by-cons (λ c. price c - f) c xs in
      let l = h c (inl refl) in
      omega (arith, k, a, l)

  pub layers_exact : (needed : ℕ) (xs : List ℕ) (ls : List Layer) (f : ℕ) → RunOn f ls → RunsThrough price f ls xs
      → ((l : Layer) → In l ls → needed - l.rank - l.outside ≡ length (not_below price l.to xs)) → layers_sum needed ls ≡ above f xs
  layers_exact needed xs [] f r t h = sym (above_none f xs t)
  layers_exact needed xs (l ∷ ls) f r t h =
      let k = layers_exact needed xs ls l.to r.2 t.1 (λ m i. h m (inr i)) in
      let s = above_step_exact f l.to xs (let w = r.1 in omega (arith, w)) t.0 in
      let e : (needed - l.rank - l.outside) * (l.to - l.from) ≡ length (not_below price l.to xs) * (l.to - f) =
      ap (λ (x : ℕ). x * (l.to - l.from)) (h l (inl refl)) ∙ ap (λ (x : ℕ). length (not_below price l.to xs) * (l.to - x)) r.0 in
      omega (arith, k, s, e)

  pub above_zero : (xs : List ℕ) → above 0 xs ≡ sum_by price xs
  above_zero [] = refl
  above_zero (c ∷ xs) =
      let h = above_zero xs in
      let a = sum_by-cons (λ c. price c - 0) c xs in
      let b = sum_by-cons price c xs in
      omega (arith, h, a, b)

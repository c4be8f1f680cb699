-- What lists of branches span.
use Rattle.std.proofs.Common.{◌≡◌, ℕ, List, ◌∷◌, inl, inr, true, false}
use Rattle.std.proofs.lemmas.Bool.{cases_Bool}
use Rattle.obs_matroid.specs.Lists.{In}
use Rattle.obs_matroid.specs.Matroid.{Matroid}
use Rattle.obs_matroid.specs.inner.Matroid.{IsMatroid}
use Rattle.obs_matroid.proofs.Lists.{clash}

module _ (g : Matroid) (laws : IsMatroid g) where
  -- what a list spans, each list that holds it spans
  pub spans_more : (L K : List ℕ) (e : ℕ) → ((x : ℕ) → In x L → In x K) → g.spans L e ≡ true → g.spans K e ≡ true
  spans_more L K e h t = laws.through L K e (λ x i. laws.member K x (h x i)) t

  pub spans_less : (L K : List ℕ) (e : ℕ) → ((x : ℕ) → In x L → In x K) → g.spans K e ≡ false → g.spans L e ≡ false
  spans_less L K e h f = elim (cases_Bool (g.spans L e)) [ inl t ↦ clash (spans_more L K e h t) f | inr r ↦ r ]

  -- if f is added and then spans e, which it did not before, then e added spans f
  pub swapped : (L : List ℕ) (e f : ℕ) → g.spans (f ∷ L) e ≡ true → g.spans (e ∷ L) f ≡ false → g.spans L e ≡ true
  swapped L e f t n = elim (cases_Bool (g.spans L e)) [ inl y ↦ y | inr r ↦ clash (laws.swaps L e f t r) n ]

-- Components: kinds of branches that have nothing to do with one another, as the summands of a direct sum (which need not be connected).
-- A kind is said of a branch, a component of an item.
use Rattle.std.specs.Prelude.{◌≡◌, ℕ, Bool, true, List, filter, ◌==◌}
use Rattle.obs_matroid.specs.Matroid.{Matroid}

-- the matroid is the direct sum of the kinds of its branches: what a list spans, its branches of the same kind span
abbrev pub IsSumOfKinds : Matroid → (ℕ → ℕ) → Type 0
IsSumOfKinds g kind = (L : List ℕ) (e : ℕ) → g.spans L e ≡ true → g.spans (filter (λ x. kind x == kind e) L) e ≡ true

-- whether the item m is of the component K, where `of m` is the component of m
abbrev pub is_of : (ℕ → ℕ) → ℕ → ℕ → Bool
is_of of K m = of m == K

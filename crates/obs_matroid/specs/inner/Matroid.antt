-- What makes a closure and a rank a matroid.
use Rattle.std.specs.Prelude.{◌≡◌, ℕ, suc, true, false, List, [], ◌∷◌}
use Rattle.obs_matroid.specs.Lists.{In}
use Rattle.obs_matroid.specs.Matroid.{Matroid}

-- g is a matroid
pub record IsMatroid (g : Matroid) : Type 0 where
  -- a list spans its own branches
  pub member : (L : List ℕ) (e : ℕ) → In e L → g.spans L e ≡ true
  -- and what is spanned by branches that it spans: the closure grows with the list, and the closure of a closure is itself
  pub through : (L K : List ℕ) (e : ℕ) → ((x : ℕ) → In x L → g.spans K x ≡ true) → g.spans L e ≡ true → g.spans K e ≡ true
  -- the exchange law: if L spans e with f, and not without, then L spans f with e
  pub swaps : (L : List ℕ) (e f : ℕ) → g.spans (f ∷ L) e ≡ true → g.spans L e ≡ false → g.spans (e ∷ L) f ≡ true
  -- the rank begins at 0, and one more branch raises it by one exactly where it is not spanned yet
  pub rank_empty : g.rank [] ≡ 0
  pub rank_spanned : (L : List ℕ) (e : ℕ) → g.spans L e ≡ true → g.rank (e ∷ L) ≡ g.rank L
  pub rank_new : (L : List ℕ) (e : ℕ) → g.spans L e ≡ false → g.rank (e ∷ L) ≡ suc (g.rank L)

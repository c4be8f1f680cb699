-- A matroid, by its closure and its rank. Its elements are numbers, called branches:
-- in a graph a list of branches spans a branch whose ends it joins, and is independent where it is a forest.
use Rattle.std.specs.Prelude.{◌≡◌, ℕ, Bool, false, List, [], ◌∷◌}

-- which branches a list of branches spans (those in its closure), and the rank of each list
pub record Matroid : Type 0 where
  pub spans : List ℕ → ℕ → Bool
  pub rank : List ℕ → ℕ

-- the branches are independent: none is spanned by those after it, and so, in a matroid, none by the others
abbrev pub IsIndependent : Matroid → List ℕ → Type 0
IsIndependent g [] = Unit {0}
IsIndependent g (e ∷ L) = (g.spans L e ≡ false) × IsIndependent g L

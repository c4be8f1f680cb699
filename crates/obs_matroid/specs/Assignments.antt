-- Assignments: items, each with an independent branch of its own among those that it touches.
-- `touch m` is the list of branches that the item m touches, and M a list of items.
use Rattle.std.specs.Prelude.{ℕ, List, map}
use Rattle.obs_matroid.specs.Lists.{In, IsDistinct}
use Rattle.obs_matroid.specs.Matroid.{Matroid, IsIndependent}

-- a pair of an item and a branch
abbrev pub Pair : Type 0
Pair = ℕ × ℕ

-- the items of the pairs
abbrev pub items : List Pair → List ℕ
items = map (λ (p : Pair). p.0)

-- the branches of the pairs
abbrev pub branches : List Pair → List ℕ
branches = map (λ (p : Pair). p.1)

-- A is an assignment of items of M: each pair is an item of M and a branch that it touches,
-- the items are different, and the branches are independent (and so different too)
pub record IsAssignment (g : Matroid) (touch : ℕ → List ℕ) (M : List ℕ) (A : List Pair) : Type 0 where
  pub of_items : (p : Pair) → In p A → In p.0 M
  pub touched : (p : Pair) → In p A → In p.1 (touch p.0)
  pub different : IsDistinct (items A)
  pub independent : IsIndependent g (branches A)

-- The bound of some items, and when it is tight.
use Rattle.std.specs.Prelude.{ℕ, ◌+◌, Bool, List, length, flat_map}
use Rattle.obs_matroid.specs.Matroid.{Matroid}
use Rattle.obs_matroid.specs.inner.Assignments.{IsRho}
use Rattle.obs_matroid.specs.Bounds.{inside, outside}

-- the bound of J over M: the rank of what the marked items touch, and one for each other item
abbrev pub bound : Matroid → (ℕ → List ℕ) → (ℕ → Bool) → List ℕ → ℕ
bound g touch J M = g.rank (flat_map touch (inside J M)) + length (outside J M)

-- J is tight over M: its bound is the greatest length of an assignment
abbrev pub IsTight : Matroid → (ℕ → List ℕ) → List ℕ → (ℕ → Bool) → Type 0
IsTight g touch M J = IsRho g touch M (bound g touch J M)

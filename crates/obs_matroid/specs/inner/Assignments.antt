-- Parts of a list of pairs, and the greatest length of an assignment as a relation.
use Rattle.std.specs.Prelude.{◌≡◌, ℕ, ◌≤◌, Bool, List, length, filter}
use Rattle.obs_matroid.specs.Lists.{other_than}
use Rattle.obs_matroid.specs.Matroid.{Matroid}
use Rattle.obs_matroid.specs.Assignments.{Pair, branches, IsAssignment}

-- the pairs whose item passes the test S
abbrev pub part : (ℕ → Bool) → List Pair → List Pair
part S = filter (λ (p : Pair). S p.0)

-- the branches of all pairs but that of the item m
abbrev pub others : List Pair → ℕ → List ℕ
others A m = branches (part (other_than m) A)

-- r is the greatest length of an assignment of items of M
-- (the rank of M in the matroid that the branches induce on the items through `touch`, whose rank formula is Rado's; or 'rho')
pub record IsRho (g : Matroid) (touch : ℕ → List ℕ) (M : List ℕ) (r : ℕ) : Type 0 where
  pub longest : List Pair
  pub assigns : IsAssignment g touch M longest
  pub long : length longest ≡ r
  pub none_longer : (B : List Pair) → IsAssignment g touch M B → length B ≤ r

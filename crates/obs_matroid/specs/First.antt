-- The first assignment: the least of the longest ones.
use Rattle.std.specs.Prelude.{◌≡◌, ℕ, ◌<◌, if◌then◌else◌, ◌==◌, ◌⊎◌, List, [], ◌∷◌, Option, Some, None}
use Rattle.obs_matroid.specs.Assignments.{Pair}

-- the branch that A gives to the item m, if it gives one
abbrev pub branch_at : List Pair → ℕ → Option ℕ
branch_at [] m = None
branch_at (p ∷ A) m = if p.0 == m then Some p.1 else branch_at A m

-- a lower branch comes before a higher one, and a branch before none
abbrev pub IsBefore : Option ℕ → Option ℕ → Type 0
IsBefore (Some a) (Some b) = a < b
IsBefore (Some a) None = Unit {0}
IsBefore None o = ⊥

-- by the items in the order of the list, A does not come after B: at the first item where they differ, A has what comes before
abbrev pub IsNotAfter : List ℕ → List Pair → List Pair → Type 0
IsNotAfter [] A B = Unit {0}
IsNotAfter (m ∷ ms) A B = IsBefore (branch_at A m) (branch_at B m) ⊎ ((branch_at A m ≡ branch_at B m) × IsNotAfter ms A B)

-- The first assignment as a relation.
use Rattle.std.specs.Prelude.{◌≡◌, ℕ, ◌≤◌, List, length}
use Rattle.obs_matroid.specs.Matroid.{Matroid}
use Rattle.obs_matroid.specs.Assignments.{Pair, IsAssignment}
use Rattle.obs_matroid.specs.First.{IsNotAfter}

-- A is the first assignment of M: a longest one, and no other longest one comes before it
pub record IsFirst (g : Matroid) (touch : ℕ → List ℕ) (M : List ℕ) (A : List Pair) : Type 0 where
  pub assigns : IsAssignment g touch M A
  pub longest : (B : List Pair) → IsAssignment g touch M B → length B ≤ length A
  pub least : (B : List Pair) → IsAssignment g touch M B → length B ≡ length A → IsNotAfter M A B

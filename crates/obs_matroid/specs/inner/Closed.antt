-- Closed sets of items (not flats of the matroid: sets that no exchange path from inside, as in Exchange, leaves or ends in at a free
-- branch), and an assignment that has grown.
-- Some items may be frozen: they must keep the branches that they have.
use Rattle.std.specs.Prelude.{◌≡◌, ℕ, suc, Bool, true, false, List, length, ◌≤◌, ◌||◌}
use Rattle.obs_matroid.specs.Lists.{In}
use Rattle.obs_matroid.specs.Matroid.{Matroid}
use Rattle.obs_matroid.specs.Assignments.{Pair, items, branches, IsAssignment}
use Rattle.obs_matroid.specs.inner.Assignments.{part}

-- the test that no item passes: nothing is frozen
abbrev pub none : ℕ → Bool
none x = false

-- the test that every item passes: every item may be a source
abbrev pub every : ℕ → Bool
every x = true

-- frozen items have pairs in A
abbrev pub HasFrozen : (ℕ → Bool) → List Pair → Type 0
HasFrozen frozen A = (m : ℕ) → frozen m ≡ true → In m (items A)

-- B has the frozen pairs of A, and these alone are asked for: it may lack the others
abbrev pub Extends : (ℕ → Bool) → List Pair → List Pair → Type 0
Extends frozen A B = (p : Pair) → In p A → frozen p.0 ≡ true → In p B

-- S is closed for A: each branch that an item of M in S touches is spanned by the branches that the items of S and the frozen ones have in A
pub record IsClosed (g : Matroid) (touch : ℕ → List ℕ) (M : List ℕ) (frozen : ℕ → Bool) (A : List Pair) (S : ℕ → Bool) : Type 0 where
  pub spanned : (m e : ℕ) → In m M → S m ≡ true → In e (touch m) → g.spans (branches (part (λ x. S x || frozen x) A)) e ≡ true

-- S holds the sources: the items of M that pass the test `from` and have no pair in A
abbrev pub HoldsSources : List ℕ → (ℕ → Bool) → List Pair → (ℕ → Bool) → Type 0
HoldsSources M from A S = (m : ℕ) → In m M → from m ≡ true → (In m (items A) → ⊥) → S m ≡ true

-- S is the least closed set that holds the sources
pub record IsLeastClosed (g : Matroid) (touch : ℕ → List ℕ) (M : List ℕ) (frozen from : ℕ → Bool) (A : List Pair) (S : ℕ → Bool) : Type 0 where
  pub closed : IsClosed g touch M frozen A S
  pub holds : HoldsSources M from A S
  pub least : (T : ℕ → Bool) → IsClosed g touch M frozen A T → HoldsSources M from A T → (m : ℕ) → S m ≡ true → T m ≡ true

-- B is A grown by the source s: one pair more, s has a pair now, no item lost its pair, and the frozen pairs are as before
pub record IsGrown (g : Matroid) (touch : ℕ → List ℕ) (M : List ℕ) (frozen from : ℕ → Bool) (A B : List Pair) (s : ℕ) : Type 0 where
  pub assigns : IsAssignment g touch M B
  pub longer : length B ≡ suc (length A)
  pub is_source : from s ≡ true
  pub had_none : In s (items A) → ⊥
  pub gains : In s (items B)
  pub keeps : (x : ℕ) → In x (items A) → In x (items B)
  pub extends : Extends frozen A B

-- C is A regrown: it has the frozen pairs of A, each item of A still has a pair, and no assignment with these frozen pairs is longer
pub record IsRegrown (g : Matroid) (touch : ℕ → List ℕ) (M : List ℕ) (frozen : ℕ → Bool) (A C : List Pair) : Type 0 where
  pub assigns : IsAssignment g touch M C
  pub extends : Extends frozen A C
  pub keeps : (x : ℕ) → In x (items A) → In x (items C)
  pub longest : (B : List Pair) → IsAssignment g touch M B → Extends frozen A B → length B ≤ length C

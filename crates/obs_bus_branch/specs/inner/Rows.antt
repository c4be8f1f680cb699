-- What rows of a file are that were read, and where the first fault is.
use Rattle.std.specs.Prelude.{◌≡◌, ℕ, suc, List, [], ◌∷◌, ◌++◌}

-- each row is what stands at its place, where places are counted from k
abbrev pub AreRows : {R : Type 0} → (ℕ → List ℕ → R → Type 0) → ℕ → List (ℕ × List ℕ) → List R → Type 0
AreRows Is k [] [] = Unit {0}
AreRows Is k [] (r ∷ rs) = ⊥
AreRows Is k (row ∷ rows) [] = ⊥
AreRows Is k (row ∷ rows) (r ∷ rs) = Is k row.1 r × AreRows Is (suc k) rows rs

-- a row of these has the fault, and the rows before it have none. `Are` says what rows without a fault are, and `Has` which fault a row
-- has that stands after what these are
pub record HasRowFault {R F : Type 0} (Are : List (ℕ × List ℕ) → List R → Type 0) (Has : List R → ℕ → List ℕ → F → Type 0) (rows : List (ℕ × List ℕ)) (fault : F) : Type 0 where
  pub before : List (ℕ × List ℕ)
  pub at : ℕ
  pub row : List ℕ
  pub after : List (ℕ × List ℕ)
  pub rows_are : rows ≡ before ++ (at, row) ∷ after
  pub done : List R
  pub done_are : Are before done
  pub has : Has done at row fault

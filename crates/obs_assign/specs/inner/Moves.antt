-- Moves of an assignment, and its turns.
use Rattle.std.specs.Prelude.{◌≡◌, ◌≢◌, ℕ, ◌+◌, ◌<◌, false, min, Option, Some, None, List, [], ◌∷◌, All, AllPairs, length, slice_index_or, slice_set}
use Rattle.obs_assign.specs.declared.Move.{Move}
use Rattle.obs_assign.specs.Assignment.{Assignment}
use Rattle.obs_assign.specs.inner.Assignment.{branch_at, is_frozen}

-- the slots after the moves, one after the other: each meter has its new branch in place of the one that it had
abbrev pub moved : List Move → List (Option ℕ) → List (Option ℕ)
moved [] slots = slots
moved (x ∷ path) slots = moved path (slice_set slots x.meter (Some x.branch))

-- the meter of the first move has `before`, and that of each other one the branch that the move in front of it takes
abbrev pub HandsOn : List (Option ℕ) → Option ℕ → List Move → Type 0
HandsOn slots before [] = Unit {0}
HandsOn slots before (x ∷ path) = (slice_index_or slots x.meter None ≡ before) × HandsOn slots (Some x.branch) path

-- the first of the moves gives a pair to a meter that has none, the others move meters that have pairs and aren't
-- frozen, and all these meters are different
pub record IsPath (a : Assignment) (first : Move) (rest : List Move) : Type 0 where
  pub low : All (λ (x : Move). x.meter < length a.slots) (first ∷ rest)
  pub bare : branch_at a first.meter ≡ None
  pub paired : All (λ (x : Move). branch_at a x.meter ≢ None) rest
  pub thawed : All (λ (x : Move). is_frozen a x.meter ≡ false) rest
  pub different : AllPairs (λ (x y : Move). x.meter ≢ y.meter) (first ∷ rest)

-- the moves of a path, which isn't empty
abbrev pub ArePath : Assignment → List Move → Type 0
ArePath a [] = ⊥
ArePath a (first ∷ rest) = IsPath a first rest

-- the number of turns after one more: it stands at the last value of a u64
abbrev pub turned : ℕ → ℕ
turned t = min (t + 1) 18446744073709551615

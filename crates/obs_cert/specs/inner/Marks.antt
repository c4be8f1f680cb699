-- Marks that need no clearing: what is marked with a stamp is marked, and each use has a stamp of its own.
use Rattle.std.specs.Prelude.{ℕ, ◌<◌, ◌==◌, Bool, List, slice_index}

-- whether a number is marked with the stamp
abbrev pub is_marked : List ℕ → ℕ → ℕ → Bool
is_marked marks stamp x = slice_index marks x == stamp

-- each mark is below a stamp
abbrev pub AreBelow : ℕ → List ℕ → Type 0
AreBelow stamp marks = (x : ℕ) → slice_index marks x < stamp

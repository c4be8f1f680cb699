-- Two orders of the meters, in which a split searches from those without a pair.
use Rattle.std.specs.Prelude.{◌≡◌, ℕ, suc, ◌+◌, ◌-◌, ◌<◌, ◌==◌, Bool, true, false, if◌then◌else◌, Option, None, Some, List, length, slice_index}

-- whether there is none
abbrev pub is_bare : Option ℕ → Bool
is_bare None = true
is_bare (Some e) = false

-- which of n meters stands at a place: their numbers rise, or fall
abbrev pub number_at : Bool → ℕ → ℕ → ℕ
number_at falls n k = if falls then n - suc k else k

-- the list has the n meters in this order
pub record AreInOrder (falls : Bool) (n : ℕ) (order : List ℕ) : Type 0 where
  pub count : length order ≡ n
  pub numbers : (k : ℕ) → k < n → slice_index order k ≡ number_at falls n k

-- whether one of n meters stands at the one place where they rise and at the other where they fall
abbrev pub is_same : ℕ → ℕ → ℕ → Bool
is_same n first last = first + last + 1 == n

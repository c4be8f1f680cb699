-- What the arrays of a search are set to before it begins.
use Rattle.std.specs.Prelude.{◌≡◌, ◌≢◌, ℕ, ◌≤◌, ◌<◌, Bool, true, false, List, length, replicate, slice_index}
use Rattle.obs_assign.specs.inner.Assignment.{has_flag}

-- no flag, for so many and more
pub record AreClear (n : ℕ) (flags : List Bool) : Type 0 where
  pub enough : n ≤ length flags
  pub clear : flags ≡ replicate (length flags) false

-- the vertices, by number
abbrev pub AreNumbers : List ℕ → Type 0
AreNumbers numbers = (v : ℕ) → v < length numbers → slice_index numbers v ≡ v

-- k is one of the first `count` entries of the list, and none of the first i
pub record IsEntry (list : List ℕ) (i count k : ℕ) : Type 0 where
  pub place : ℕ
  pub from : i ≤ place
  pub low : place < count
  pub there : slice_index list place ≡ k

-- each flag that is set is that of such an entry
abbrev pub AreListedFrom : List Bool → List ℕ → ℕ → ℕ → Type 0
AreListedFrom flags list i count = (k : ℕ) → has_flag flags k ≡ true → IsEntry list i count k

-- each vertex that leads elsewhere than to itself is such an entry
abbrev pub AreLedFrom : List ℕ → List ℕ → ℕ → ℕ → Type 0
AreLedFrom tops list i count = (v : ℕ) → v < length tops → slice_index tops v ≢ v → IsEntry list i count v

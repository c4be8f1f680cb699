-- What is kept of classes that were found: the first meter of each, and which have another.
use Rattle.std.specs.Prelude.{◌≡◌, ℕ, ◌<◌, ◌≤◌, Bool, List, length, slice_index}
use Rattle.obs_meter.specs.inner.Sizes.{Sizes}
use Rattle.obs_assign.specs.inner.Assignment.{has_flag}
use Rattle.obs_pairs.specs.PairWork.{has_another}

-- of each meter the class in which it was found last, and the sizes that the work value was made for
pub record PairWork : Type 0 where
  pub list : List ℕ
  pub sizes : Sizes

-- each class is named by its first meter
abbrev pub AreFirst : List ℕ → Type 0
AreFirst list = (k : ℕ) → k < length list → (slice_index list k ≤ k) × (slice_index list (slice_index list k) ≡ slice_index list k)

-- the flags mark the meters whose class another has too
abbrev pub AreShared : List ℕ → List Bool → Type 0
AreShared list flags = (k : ℕ) → k < length list → has_flag flags k ≡ has_another list k

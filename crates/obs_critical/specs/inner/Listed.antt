-- Lists of critical meters.
use Rattle.std.specs.Prelude.{ℕ, ◌&&◌, Bool, List, is_some, not}
use Rattle.obs_assign.specs.Assignment.{Assignment}
use Rattle.obs_assign.specs.inner.Assignment.{branch_at}

-- the meters that were found last, and for how many there is room
pub record CriticalWork : Type 0 where
  pub list : List ℕ
  pub most_meters : ℕ

-- whether the meter has a pair and the marks don't have it
abbrev pub is_unmarked_pair : Assignment → (ℕ → Bool) → ℕ → Bool
is_unmarked_pair a marks m = is_some (branch_at a m) && not (marks m)

-- Pairs that are made more by one search after the other.
use Rattle.std.specs.Prelude.{◌≡◌, ◌≢◌, ℕ, ◌+◌, ◌≤◌, true, None, length}
use Rattle.obs_assign.specs.Assignment.{Assignment}
use Rattle.obs_assign.specs.inner.Assignment.{branch_at, is_frozen, pairs}

-- a became b by so many searches: no meter lost its pair, the frozen pairs are as before, each search but the last found one
-- pair more, and each turn was one of a pair that was found
pub record HasLengthened (a b : Assignment) (searches : ℕ) : Type 0 where
  pub keeps : (m : ℕ) → branch_at a m ≢ None → branch_at b m ≢ None
  pub frozen : b.frozen ≡ a.frozen
  pub frozen_pairs : (m : ℕ) → is_frozen a m ≡ true → branch_at b m ≡ branch_at a m
  pub grown : length (pairs b) ≤ length (pairs a) + searches
  pub all_but_one : length (pairs a) + searches ≤ length (pairs b) + 1
  pub turns_rise : a.turns ≤ b.turns
  pub turns_found : b.turns + length (pairs a) ≤ a.turns + length (pairs b)
  pub none : searches ≡ 0 → b ≡ a

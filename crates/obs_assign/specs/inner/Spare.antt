-- Which meter gives up its pair where another one takes a branch.
use Rattle.std.specs.Prelude.{◌≡◌, ◌⊎◌, ◌<◌, ℕ, Bool, true, false, Option, Some, None, List, Contains, length, slice_index_or}
use Rattle.obs_graph.specs.declared.Ends.{Ends}
use Rattle.obs_matroid.specs.Lists.{other_than}
use Rattle.obs_matroid.specs.inner.Assignments.{others, part}
use Rattle.obs_matroid.specs.inner.Slots.{pairs_of}
use Rattle.obs_assign.specs.inner.Assignment.{has_flag}
use Rattle.obs_assign.specs.inner.Pins.{joins}

-- x has one of the branches and isn't frozen, and it is another meter than m only where m has none of them
pub record IsSpareOf (path : List ℕ) (owners : List (Option ℕ)) (frozen : List Bool) (m x : ℕ) : Type 0 where
  pub branch : ℕ
  pub listed : Contains path branch
  pub has : slice_index_or owners branch None ≡ Some x
  pub thawed : has_flag frozen x ≡ false
  pub needed : (x ≡ m) ⊎ ((p : ℕ) → Contains path p → slice_index_or owners p None ≡ Some m → ⊥)

-- x isn't frozen, and without the pairs of m and x the branches don't join the ends of e; it is another meter than m
-- only where they do without the pair of m alone
pub record IsSpare (ends : List (Option Ends)) (slots : List (Option ℕ)) (frozen : List Bool) (m e x : ℕ) : Type 0 where
  pub low : x < length slots
  pub thawed : has_flag frozen x ≡ false
  pub apart : joins ends (others (part (other_than m) (pairs_of slots)) x) e ≡ false
  pub needed : (x ≡ m) ⊎ (joins ends (others (pairs_of slots) m) e ≡ true)

-- Pairs that are pinned: the meter is frozen and keeps its branch.
use Rattle.std.specs.Prelude.{◌≡◌, ◌⊎◌, ℕ, Bool, true, false, Option, Some, None, List, length, slice_set, ◌<◌}
use Rattle.obs_graph.specs.declared.Ends.{Ends}
use Rattle.obs_matroid.specs.inner.Assignments.{others}
use Rattle.obs_meter.specs.Spanned.{ends_at, joined_at}
use Rattle.obs_assign.specs.Assignment.{Assignment}
use Rattle.obs_assign.specs.inner.Assignment.{branch_at, frozen_branches, is_frozen, pairs}

-- whether the branches at these positions join the two ends of e
abbrev pub joins : List (Option Ends) → List ℕ → ℕ → Bool
joins ends positions e = joined_at ends positions (ends_at ends e).0 (ends_at ends e).1

-- m may be pinned to e: it isn't frozen, no frozen meter has e, and the frozen branches don't join the ends of e
pub record MayPin (a : Assignment) (ends : List (Option Ends)) (m e : ℕ) : Type 0 where
  pub thawed : is_frozen a m ≡ false
  pub free : (x : ℕ) → is_frozen a x ≡ true → branch_at a x ≡ Some e → ⊥
  pub apart : joins ends (frozen_branches a) e ≡ false

-- the slots where m takes e and x has no pair any more
abbrev pub pinned_slots : List (Option ℕ) → ℕ → ℕ → ℕ → List (Option ℕ)
pinned_slots slots m e x = slice_set (slice_set slots x None) m (Some e)

-- after m was pinned to e: the pair of m and e stands in place of the one that m had, and the meter x has no pair any
-- more. x isn't frozen, and it is another meter than m only where the branches of the meters but m join the ends of e
pub record IsPinnedAt (a : Assignment) (ends : List (Option Ends)) (m e : ℕ) (after : List (Option ℕ)) (x : ℕ) : Type 0 where
  pub low : x < length a.slots
  pub thawed : is_frozen a x ≡ false
  pub needed : (x ≡ m) ⊎ (joins ends (others (pairs a) m) e ≡ true)
  pub pairs_are : after ≡ pinned_slots a.slots m e x

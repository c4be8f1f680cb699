-- Classes that are found one after the other.
use Rattle.std.specs.Prelude.{◌≡◌, ◌↔◌, ℕ, ◌<◌, ◌&&◌, Bool, true, false, not, Option, List, length, slice_index}
use Rattle.obs_graph.specs.declared.Ends.{Ends}
use Rattle.obs_meter.specs.declared.Touch.{Touch}
use Rattle.obs_meter.specs.Touches.{is_live}
use Rattle.obs_assign.specs.inner.Assignment.{has_flag}
use Rattle.obs_exchange.specs.Critical.{critical_at}
use Rattle.obs_pairs.specs.Partners.{class_at}

-- whether a meter is redundant: live, and not critical
abbrev pub redundant_at : ℕ → List (Option Ends) → List Touch → ℕ → Bool
redundant_at n ends touches m = is_live ends touches m && not (critical_at n ends touches m)

-- of the redundant meters the marks lack just those of the class of m
abbrev pub LacksClass : ℕ → List (Option Ends) → List Touch → ℕ → (ℕ → Bool) → Type 0
LacksClass n ends touches m S = (k : ℕ) → redundant_at n ends touches k ≡ true
    → (S k ≡ false) ↔ (class_at n ends touches k ≡ class_at n ends touches m)

-- the list has for each meter the key of its class: some meter of it, the same for all of the class
pub record AreKeyed (n : ℕ) (ends : List (Option Ends)) (touches : List Touch) (list : List ℕ) : Type 0 where
  pub places : length list ≡ length touches
  pub keyed : (k : ℕ) → k < length touches → (slice_index list k < length touches) × (class_at n ends touches (slice_index list k) ≡ class_at n ends touches k)
  pub same : (j k : ℕ) → j < length touches → k < length touches → class_at n ends touches j ≡ class_at n ends touches k → slice_index list j ≡ slice_index list k

-- each class is open as a whole or settled as a whole: an open meter is redundant, any other has the key of its class in the
-- list; and the meters below i aren't open
pub record AreSettled (n : ℕ) (ends : List (Option Ends)) (touches : List Touch) (open_flags : List Bool) (list : List ℕ) (i : ℕ) : Type 0 where
  pub flags : length open_flags ≡ length touches
  pub places : length list ≡ length touches
  pub opened : (k : ℕ) → has_flag open_flags k ≡ true → redundant_at n ends touches k ≡ true
  pub whole : (j k : ℕ) → has_flag open_flags j ≡ true → class_at n ends touches k ≡ class_at n ends touches j → has_flag open_flags k ≡ true
  pub passed : (k : ℕ) → k < i → has_flag open_flags k ≡ false
  pub keyed : (k : ℕ) → k < length touches → has_flag open_flags k ≡ false
      → (slice_index list k < length touches) × (class_at n ends touches (slice_index list k) ≡ class_at n ends touches k)
  pub same : (j k : ℕ) → j < length touches → k < length touches → has_flag open_flags j ≡ false → has_flag open_flags k ≡ false
      → class_at n ends touches j ≡ class_at n ends touches k → slice_index list j ≡ slice_index list k

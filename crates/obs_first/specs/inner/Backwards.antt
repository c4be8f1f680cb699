-- Why a meter can't lose its pair: no meter that leads to it is a source. Each of those that lead to it is cut off by its branch: a set of
-- vertices to which no other pair leads, and no other meter.
use Rattle.std.specs.Prelude.{◌≡◌, ◌≢◌, ℕ, ◌<◌, Bool, true, false, Option, Some, List, length}
use Rattle.obs_graph.specs.declared.Ends.{Ends}
use Rattle.obs_matroid.specs.Lists.{In}
use Rattle.obs_meter.specs.declared.Touch.{Touch}
use Rattle.obs_meter.specs.Spanned.{ends_at}
use Rattle.obs_meter.specs.Touches.{touch_at}
use Rattle.obs_assign.specs.Assignment.{Assignment}
use Rattle.obs_assign.specs.inner.Assignment.{branch_at, has_flag, is_frozen}

-- both ends of the branch lie in the set, or neither does
abbrev pub IsOnOneSide : List (Option Ends) → (ℕ → Bool) → ℕ → Type 0
IsOnOneSide ends S e = S (ends_at ends e).0 ≡ S (ends_at ends e).1

-- neither the branch of another meter than d leads out of the set, nor what the meter may take, where it is thawed and loose and isn't
-- among those that lead on
pub record StaysOff (ends : List (Option Ends)) (touches : List Touch) (a : Assignment) (loose : List Bool) (led : ℕ → Bool) (d : ℕ) (S : ℕ → Bool) (x : ℕ) : Type 0 where
  pub pair : (e : ℕ) → branch_at a x ≡ Some e → x ≢ d → IsOnOneSide ends S e
  pub touched : (e : ℕ) → is_frozen a x ≡ false → has_flag loose x ≡ true → led x ≡ false → In e (touch_at ends touches x) → IsOnOneSide ends S e

-- the branch of d leads out of the set, and no other meter leads there
pub record IsCutOff (ends : List (Option Ends)) (touches : List Touch) (a : Assignment) (loose : List Bool) (led : ℕ → Bool) (d : ℕ) (S : ℕ → Bool) : Type 0 where
  pub branch : ℕ
  pub has : branch_at a d ≡ Some branch
  pub across : IsOnOneSide ends S branch → ⊥
  pub others : (x : ℕ) → x < length touches → StaysOff ends touches a loose led d S x

-- m is one of the meters that lead to it, and each of these has a pair and is cut off
pub record HasNoWayTo (ends : List (Option Ends)) (touches : List Touch) (a : Assignment) (loose : List Bool) (m : ℕ) : Type 0 where
  pub led : ℕ → Bool
  pub own : led m ≡ true
  pub cut : (d : ℕ) → d < length touches → led d ≡ true → (S : ℕ → Bool) × IsCutOff ends touches a loose led d S

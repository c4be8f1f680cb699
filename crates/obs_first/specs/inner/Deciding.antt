-- How the first assignment is found, meter by meter: the decided pairs are frozen.
use Rattle.std.specs.Prelude.{◌≡◌, ◌⊎◌, ◌↔◌, ℕ, ◌+◌, ◌<◌, ◌≤◌, Bool, true, false, Option, None, Some, List, length, slice_index_or, slice_set}
use Rattle.std.specs.List.{range_with_len}
use Rattle.obs_graph.specs.declared.Ends.{Ends}
use Rattle.obs_graph.specs.Graph.{Graph}
use Rattle.obs_graph.specs.Positions.{AreBranches}
use Rattle.obs_matroid.specs.Assignments.{Pair, items}
use Rattle.obs_matroid.specs.inner.Assignments.{part}
use Rattle.obs_matroid.specs.inner.Closed.{Extends}
use Rattle.obs_matroid.specs.First.{IsBefore, IsNotAfter}
use Rattle.obs_matroid.specs.Lists.{In}
use Rattle.obs_meter.specs.declared.Touch.{Touch}
use Rattle.obs_meter.specs.declared.Touch.TheVariants.{Edge, Nothing}
use Rattle.obs_meter.specs.Assignments.{IsAssignmentAt}
use Rattle.obs_meter.specs.inner.Sizes.{HasRoomFor}
use Rattle.obs_meter.specs.Touches.{every_item, is_live}
use Rattle.obs_meter.specs.inner.Touches.{AreInRange}
use Rattle.obs_assign.specs.Assignment.{Assignment}
use Rattle.obs_assign.specs.inner.Assignment.{HasRoomOf, IsWhole, StandsOver, branch_at, has_flag, is_frozen, pairs}
use Rattle.obs_exchange.specs.declared.Sources.TheVariants.{All, One}
use Rattle.obs_exchange.specs.inner.Closed.{IsLeastClosedAt}
use Rattle.obs_exchange.specs.inner.Found.{Work}
use Rattle.obs_exchange.specs.inner.Noting.{AreNoted}

-- B is an assignment of the meters that has the frozen pairs of a
pub record HasFrozenOf (ends : List (Option Ends)) (touches : List Touch) (a : Assignment) (B : List Pair) : Type 0 where
  pub assigns : IsAssignmentAt ends touches (every_item touches) B
  pub extends : Extends (is_frozen a) (pairs a) B

-- the pairs whose meter is frozen
abbrev pub frozen_pairs : Assignment → List Pair
frozen_pairs a = part (is_frozen a) (pairs a)

-- the frozen meters of a have in b the branches that they have in a
abbrev pub KeepsFrozen : Assignment → Assignment → Type 0
KeepsFrozen a b = (x : ℕ) → is_frozen a x ≡ true → branch_at b x ≡ branch_at a x

-- each live meter that isn't loose is critical beside the frozen pairs: no assignment that has these and nothing for the meter is so long
abbrev pub AreCriticalBeside : List (Option Ends) → List Touch → Assignment → List Bool → ℕ → Type 0
AreCriticalBeside ends touches a loose long =
    (m : ℕ) → is_live ends touches m ≡ true → has_flag loose m ≡ false
    → (B : List Pair) → HasFrozenOf ends touches a B → (In m (items B) → ⊥) → length B < long

-- what the work value knows while meters are decided: there is room for its searches, the live meters without a pair are noted, what the
-- meters touch is copied, and the live meters that aren't loose are critical beside the frozen pairs
pub record IsPrepared (g : Graph) (touches : List Touch) (a : Assignment) (work : Work) (long : ℕ) : Type 0 where
  pub room : HasRoomFor work.sizes g touches
  pub noted : AreNoted g.ends touches All a work.noted
  pub copied : work.touches ≡ touches
  pub critical : AreCriticalBeside g.ends touches a work.loose long

-- what holds before a meter is decided, and after it: the pairs stand over the graph and the meters, and the work value is prepared for so
-- many pairs
pub record IsReady (g : Graph) (touches : List Touch) (a : Assignment) (work : Work) (long : ℕ) : Type 0 where
  pub branches : AreBranches g.vertices g.ends
  pub in_range : AreInRange g touches
  pub stands : StandsOver a g touches
  pub whole : IsWhole a
  pub prepared : IsPrepared g touches a work long

-- b and w, which a and v became, are ready: the frozen meters of a keep their branches, and all sizes are as before
pub record GoesOn (g : Graph) (touches : List Touch) (a b : Assignment) (v w : Work) (long : ℕ) : Type 0 where
  pub ready : IsReady g touches b w long
  pub keeps : KeepsFrozen a b
  pub same_room : HasRoomOf a b
  pub same_sizes : w.sizes ≡ v.sizes

-- the same, and no meter was frozen or thawed
pub record IsMoved (g : Graph) (touches : List Touch) (a b : Assignment) (v w : Work) (long : ℕ) : Type 0 where
  pub goes_on : GoesOn g touches a b v w long
  pub frozen : b.frozen ≡ a.frozen

-- one of the meters, without a pair
pub record IsWithoutPair (touches : List Touch) (a : Assignment) (m : ℕ) : Type 0 where
  pub low : m < length touches
  pub bare : branch_at a m ≡ None

-- the meter m took e in b, where it is frozen as those of a are, and the pairs are as many as they are to be
pub record HasTaken (a b : Assignment) (m e long : ℕ) : Type 0 where
  pub has : branch_at b m ≡ Some e
  pub frozen : b.frozen ≡ slice_set a.frozen m true
  pub long_enough : long ≤ length (pairs b)

-- the frozen meters are as before, and no assignment that has their pairs and the pair of m and e is so long
pub record HasRefused (ends : List (Option Ends)) (touches : List Touch) (a b : Assignment) (m e long : ℕ) : Type 0 where
  pub frozen : b.frozen ≡ a.frozen
  pub none : (B : List Pair) → HasFrozenOf ends touches a B → In (m, e) B → length B < long

-- the pairs are as many as they are to be, and m has e or no branch
pub record AreEnoughFor (a : Assignment) (m e long : ℕ) : Type 0 where
  pub enough : long ≤ length (pairs a)
  pub has : (branch_at a m ≡ None) ⊎ (branch_at a m ≡ Some e)

-- m has no pair, and with one for m the pairs would be as many as they are to be; of the other meters a closed set shows that
-- they can have no more pairs beside the frozen ones
pub record IsAside (ends : List (Option Ends)) (touches : List Touch) (a : Assignment) (m long : ℕ) : Type 0 where
  pub bare : branch_at a m ≡ None
  pub short : length (pairs a) < long
  pub near : long ≤ length (pairs a) + 1
  pub closed : ℕ → Bool
  pub least : IsLeastClosedAt ends (slice_set touches m Nothing) All a closed

-- while m is decided the pairs are as many as they are to be, or m was set aside
abbrev pub IsUnderWay : List (Option Ends) → List Touch → Assignment → ℕ → ℕ → Type 0
IsUnderWay ends touches a m long = (long ≤ length (pairs a)) ⊎ IsAside ends touches a m long

-- m is the meter to decide: all is ready for it, it isn't frozen, and it is under way
pub record MayTake (g : Graph) (touches : List Touch) (a : Assignment) (work : Work) (m long : ℕ) : Type 0 where
  pub ready : IsReady g touches a work long
  pub low : m < length touches
  pub thawed : is_frozen a m ≡ false
  pub under_way : IsUnderWay g.ends touches a m long

-- as if m touched e alone, the pairs can't be more: a closed set from m shows it
abbrev pub IsOutOfReach : List (Option Ends) → List Touch → Assignment → ℕ → ℕ → Type 0
IsOutOfReach ends touches a m e = (S : ℕ → Bool) × IsLeastClosedAt ends (slice_set touches m (Edge e)) (One m) a S

-- a meter before m touches the same, and has a higher branch than y, or none
pub record IsPassed (touches : List Touch) (a : Assignment) (m y : ℕ) : Type 0 where
  pub before : ℕ
  pub lower : before < m
  pub same : slice_index_or touches before Nothing ≡ slice_index_or touches m Nothing
  pub higher : IsBefore (Some y) (branch_at a before)

-- the first i meters are decided: the pairs are as many as they can be, no assignment of that number comes before them by
-- these meters, and of these just those that have a pair are frozen
pub record IsDecided (ends : List (Option Ends)) (touches : List Touch) (a : Assignment) (i long : ℕ) : Type 0 where
  pub length_is : length (pairs a) ≡ long
  pub longest : (B : List Pair) → IsAssignmentAt ends touches (every_item touches) B → length B ≤ long
  pub least : (B : List Pair) → IsAssignmentAt ends touches (every_item touches) B → length B ≡ long → IsNotAfter (range_with_len 0 i) (pairs a) B
  pub frozen : (x : ℕ) → (is_frozen a x ≡ true) ↔ ((x < i) × In x (items (pairs a)))

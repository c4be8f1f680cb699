-- The steps of a repair: the pair that an edit takes away is given up, the network follows, of the other pairs those are kept that
-- stand, and searches make them more.
use Rattle.std.specs.Prelude.{ℕ, ◌≡◌, ◌≢◌, ◌↔◌, ◌+◌, ◌<◌, ◌≤◌, ◌&&◌, Bool, IsTrue, true, false, nat_lt, List, Option, None, Some, length, if◌then◌else◌}
use Rattle.obs_case.specs.Tables.{IsValid, Tables}
use Rattle.obs_graph.specs.Graph.{Graph}
use Rattle.obs_matroid.specs.Assignments.{Pair}
use Rattle.obs_matroid.specs.Lists.{In}
use Rattle.obs_meter.specs.declared.Touch.{Touch}
use Rattle.obs_meter.specs.Assignments.{IsAssignmentAt}
use Rattle.obs_meter.specs.Touches.{every_item}
use Rattle.obs_assign.specs.Assignment.{Assignment}
use Rattle.obs_assign.specs.inner.Assignment.{IsWhole, StandsOver, branch_at, pairs}
use Rattle.obs_network.specs.inner.Edited.{AreSameBut}
use Rattle.obs_network.specs.Network.{Network, network_of}
use Rattle.obs_repair.specs.declared.edit.Edit.{Edit}
use Rattle.obs_repair.specs.declared.edit.Edit.TheVariants.{Switch, Branch, Meter}
use Rattle.obs_repair.specs.Edits.{edited}
use Rattle.obs_repair.specs.inner.Edits.{HasRow, standing}
use Rattle.obs_kept.specs.inner.Kept.{AreLongest}

-- the edit makes this case of another one, which has this network and for which the pairs are longest
pub record IsBefore (t : Tables) (edit : Edit) (n : Network) (a : Assignment) : Type 0 where
  pub before : Tables
  pub valid : IsValid before
  pub row : HasRow before edit
  pub same : t ≡ edited before edit
  pub changed : t ≢ before
  pub network : n ≡ network_of before
  pub longest : AreLongest before a

-- a network is that of a case of which the edit makes this one
pub record IsNetworkBefore (n : Network) (edit : Edit) (t : Tables) : Type 0 where
  pub before : Tables
  pub row : HasRow before edit
  pub network : n ≡ network_of before
  pub same : t ≡ edited before edit

-- whether an edit takes a pair away: the meter goes, or the branch trips
abbrev pub IsTaken : Edit → Pair → Type 0
IsTaken (Switch at closed) p = ⊥
IsTaken (Branch at true) p = ⊥
IsTaken (Branch at false) p = p.1 ≡ at
IsTaken (Meter at true) p = ⊥
IsTaken (Meter at false) p = p.0 ≡ at

-- the meter or the branch of an edit is one of those that pairs can have
abbrev pub HasPlace : Edit → Assignment → Type 0
HasPlace (Switch at closed) a = Unit {0}
HasPlace (Branch at inservice) a = at < length a.forest.held
HasPlace (Meter at inservice) a = at < length a.slots

-- the meter whose pair an edit takes away, or none
abbrev pub IsMeterTaken : Edit → Assignment → Option ℕ → Type 0
IsMeterTaken edit a None = (p : Pair) → In p (pairs a) → IsTaken edit p → ⊥
IsMeterTaken edit a (Some m) = (m < length a.slots) × ((p : Pair) → In p (pairs a) → IsTaken edit p ↔ (p.0 ≡ m))

-- the pairs but those that an edit takes away are left
pub record AreLeft (edit : Edit) (a b : Assignment) : Type 0 where
  pub turns : b.turns ≡ a.turns
  pub left : (p : Pair) → In p (pairs b) ↔ (In p (pairs a) × (IsTaken edit p → ⊥))

-- what is said of an edit: whether nothing changed but its meter or its branch, and of a switch whether nothing changed. Of a meter
-- it is always said
abbrev pub IsSaidAlone : Edit → Bool → Network → Network → Type 0
IsSaidAlone (Switch at closed) alone n after = IsTrue alone → after ≡ n
IsSaidAlone (Branch at inservice) alone n after = IsTrue alone → AreSameBut at n after
IsSaidAlone (Meter at inservice) alone n after = alone ≡ true

-- the pairs stand over the network of a case of which the edit makes this one
pub record StoodBefore (t : Tables) (edit : Edit) (a : Assignment) : Type 0 where
  pub before : Tables
  pub valid : IsValid before
  pub same : t ≡ edited before edit
  pub stands : StandsOver a (network_of before).graph (network_of before).meters.touches
  pub whole : IsWhole a

-- whether an edit puts a branch or a meter in service
abbrev pub is_put : Edit → Bool
is_put (Switch at closed) = false
is_put (Branch at inservice) = inservice
is_put (Meter at inservice) = inservice

-- how many pairs there can be after an edit, where there were so many before and the case needs so many now
abbrev pub most_pairs : Edit → Bool → ℕ → ℕ → ℕ
most_pairs edit alone had needed = if alone then (if is_put edit && nat_lt had needed then had + 1 else had) else needed

-- the meter that an edit puts in service, or none
abbrev pub IsMeterBack : Edit → Option ℕ → Type 0
IsMeterBack edit None = (m : ℕ) → edit ≢ Meter m true
IsMeterBack edit (Some m) = edit ≡ Meter m true

-- a meter came back: it has no pair, and no assignment of the other meters has more pairs
pub record IsBack (g : Graph) (touches : List Touch) (m : ℕ) (a : Assignment) : Type 0 where
  pub low : m < length a.slots
  pub bare : branch_at a m ≡ None
  pub most : (B : List Pair) → IsAssignmentAt g.ends touches (every_item touches) B → ((p : Pair) → In p B → p.0 ≢ m) → length B ≤ length (pairs a)

-- the standing pairs are kept, but perhaps one, and no others
pub record AreKept (t : Tables) (before after : Assignment) : Type 0 where
  pub turns : after.turns ≡ before.turns
  pub within : (p : Pair) → In p (pairs after) → In p (standing t before)
  pub few : length (pairs after) ≤ length (standing t before)
  pub all_but_one : length (standing t before) ≤ length (pairs after) + 1
  pub lost : ℕ
  pub kept : (p : Pair) → In p (standing t before) → p.0 ≢ lost → In p (pairs after)

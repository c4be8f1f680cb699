-- What a search finds: one pair more, or a closed set that shows that there is none.
use Rattle.std.specs.Prelude.{◌≡◌, ◌≢◌, ◌↔◌, ℕ, ◌+◌, ◌<◌, Bool, true, false, Option, None, List, length}
use Rattle.obs_graph.specs.declared.Ends.{Ends}
use Rattle.obs_graph.specs.Graph.{Graph}
use Rattle.obs_matroid.specs.Lists.{In, IsDistinct}
use Rattle.obs_matroid.specs.Assignments.{Pair, items}
use Rattle.obs_matroid.specs.inner.Closed.{Extends}
use Rattle.obs_meter.specs.declared.Touch.{Touch}
use Rattle.obs_meter.specs.Assignments.{IsAssignmentAt}
use Rattle.obs_meter.specs.inner.Sizes.{HasRoomFor, Sizes}
use Rattle.obs_meter.specs.Touches.{every_item}
use Rattle.obs_meter.specs.inner.Touches.{AreInRange}
use Rattle.obs_assign.specs.Assignment.{Assignment}
use Rattle.obs_assign.specs.inner.Assignment.{HasRoomOf, IsWhole, StandsOver, branch_at, has_flag, is_frozen, pairs}
use Rattle.obs_assign.specs.inner.Moves.{turned}
use Rattle.obs_exchange.specs.declared.Found.{Found}
use Rattle.obs_exchange.specs.declared.Found.TheVariants.{Grown, Closed}
use Rattle.obs_exchange.specs.declared.Sources.{Sources}
use Rattle.obs_exchange.specs.declared.Sources.TheVariants.{All, One}
use Rattle.obs_exchange.specs.inner.Closed.{IsLeastClosedAt, IsSource}
use Rattle.obs_exchange.specs.inner.Noting.{AreNoted, Noted}

-- the one meter that is asked for is one that has no pair
abbrev pub CanBegin : Sources → Assignment → Type 0
CanBegin All a = Unit {0}
CanBegin (One m) a = (m < length a.slots) × (branch_at a m ≡ None)

-- a grew to b by one pair: the source m has a pair now, no meter lost its pair, and the frozen pairs are as before
pub record HasGrown (ends : List (Option Ends)) (touches : List Touch) (from : Sources) (a b : Assignment) (m : ℕ) : Type 0 where
  pub source : IsSource ends touches from a m
  pub gains : branch_at b m ≢ None
  pub keeps : (x : ℕ) → branch_at a x ≢ None → branch_at b x ≢ None
  pub frozen : b.frozen ≡ a.frozen
  pub frozen_pairs : (x : ℕ) → is_frozen a x ≡ true → branch_at b x ≡ branch_at a x
  pub longer : length (pairs b) ≡ length (pairs a) + 1
  pub turns : b.turns ≡ turned a.turns

-- an assignment B of the meters extends the frozen pairs of a, gives each meter that has a pair in a a branch, and adds a source
pub record AddsSource (ends : List (Option Ends)) (touches : List Touch) (from : Sources) (a : Assignment) (B : List Pair) : Type 0 where
  pub assigns : IsAssignmentAt ends touches (every_item touches) B
  pub extends : Extends (is_frozen a) (pairs a) B
  pub keeps : (x : ℕ) → In x (items (pairs a)) → In x (items B)
  pub source : ℕ
  pub is_source : IsSource ends touches from a source
  pub adds : In source (items B)

-- a is unchanged in b, the flags mark the least closed set that holds the live sources, and no assignment adds a source
pub record HasClosed (ends : List (Option Ends)) (touches : List Touch) (from : Sources) (a b : Assignment) (reached : List Bool) : Type 0 where
  pub same : b ≡ a
  pub flags : length reached ≡ length touches
  pub least : IsLeastClosedAt ends touches from a (has_flag reached)
  pub none : (B : List Pair) → AddsSource ends touches from a B → ⊥

-- the answer of a search that found a and left b, and whose flags mark what it reached
abbrev pub IsFound : List (Option Ends) → List Touch → Sources → Assignment → Assignment → List Bool → Found → Type 0
IsFound ends touches from a b flags (Grown m) = HasGrown ends touches from a b m
IsFound ends touches from a b flags Closed = HasClosed ends touches from a b flags

-- the list has just the meters whose flag is set, each once
pub record AreListed (flags : List Bool) (listed : List ℕ) : Type 0 where
  pub once : IsDistinct listed
  pub exactly : (m : ℕ) → In m listed ↔ (has_flag flags m ≡ true)

-- what a work value is seen as: a flag for each meter that the last closed search reached, these meters in the order in which it
-- reached them, the meters that are noted, what each meter touches as it was copied, a flag for each meter that is kept as loose, and
-- the sizes that it was made for
pub record Work : Type 0 where
  pub reached : List Bool
  pub listed : List ℕ
  pub noted : Noted
  pub touches : List Touch
  pub loose : List Bool
  pub sizes : Sizes

-- what the meters of a search touch: what was copied, or what is given
abbrev pub searched : Bool → List Touch → List Touch → List Touch
searched true copy given = copy
searched false copy given = given

-- what a search asks: meters that are in range, pairs that stand over them, room, a source that it may begin at, and noted sources
pub record CanRun (g : Graph) (touches : List Touch) (from : Sources) (a : Assignment) (w : Work) : Type 0 where
  pub in_range : AreInRange g touches
  pub stands : StandsOver a g touches
  pub room : HasRoomFor w.sizes g touches
  pub begins : CanBegin from a
  pub noted : AreNoted g.ends touches from a w.noted

-- what was reached and listed may be new, and all else is as it was
pub record KeepsRest (before after : Work) : Type 0 where
  pub noted : after.noted ≡ before.noted
  pub touches : after.touches ≡ before.touches
  pub loose : after.loose ≡ before.loose
  pub sizes : after.sizes ≡ before.sizes

-- what a search leaves: what it found, and pairs that stand as they did
pub record HasRun (g : Graph) (touches : List Touch) (from : Sources) (a b : Assignment) (before after : Work) (found : Found) : Type 0 where
  pub finds : IsFound g.ends touches from a b after.reached found
  pub lists : found ≡ Closed → AreListed after.reached after.listed
  pub rest : KeepsRest before after
  pub stands : StandsOver b g touches
  pub whole : IsWhole b
  pub same_room : HasRoomOf a b

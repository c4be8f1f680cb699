-- Parts of the vertices that bound how many pairs there can be.
use Rattle.std.specs.Prelude.{◌≡◌, ◌↔◌, ℕ, ◌+◌, ◌<◌, ◌≤◌, Bool, true, false, not, ◌==◌, Option, None, Some, List, length, filter, slice_index, slice_index_or}
use Rattle.std.specs.List.{list_any, list_all}
use Rattle.obs_case.specs.Tables.{IsValid, Tables}
use Rattle.obs_graph.specs.declared.Ends.{Ends}
use Rattle.obs_graph.specs.Joined.{first_joined, is_joined, rank}
use Rattle.obs_meter.specs.declared.Touch.{Touch}
use Rattle.obs_meter.specs.Spanned.{ends_at}
use Rattle.obs_meter.specs.Touches.{every_item, touch_at}
use Rattle.obs_assign.specs.Assignment.{Assignment}
use Rattle.obs_assign.specs.inner.Assignment.{branch_at, has_flag}
use Rattle.obs_network.specs.Network.{Network, case_vertex_room, network_of}
use Rattle.obs_network.specs.inner.Network.{case_position_count}
use Rattle.obs_repair.specs.declared.edit.Edit.{Edit}
use Rattle.obs_repair.specs.declared.edit.Edit.TheVariants.{Switch, Branch, Meter}
use Rattle.obs_repair.specs.Edits.{edited}
use Rattle.obs_repair.specs.inner.Repairing.{IsSaidAlone}

-- parts of the vertices: whether they bound the pairs, of each vertex the first of its part, and for how many positions of
-- branches there is room
pub record Parts : Type 0 where
  pub known : Bool
  pub first : List ℕ
  pub positions : ℕ

-- whether the ends of a branch lie in one part; an absent branch leads nowhere
abbrev pub is_inside : List ℕ → List (Option Ends) → ℕ → Bool
is_inside first ends e = slice_index first (ends_at ends e).0 == slice_index first (ends_at ends e).1

-- whether an item touches branches inside of parts alone
abbrev pub is_within : List ℕ → List (Option Ends) → List Touch → ℕ → Bool
is_within first ends touches m = list_all (is_inside first ends) (touch_at ends touches m)

-- whether an item touches a branch between two parts: one whose ends these branches don't join
abbrev pub is_between : List Ends → List (Option Ends) → List Touch → ℕ → Bool
is_between joins ends touches m =
    list_any (λ e. not (is_joined joins (ends_at ends e).0 (ends_at ends e).1)) (touch_at ends touches m)

-- some branches join the vertices of each part, and their rank and the items between parts are at most so many together: then
-- no assignment has more pairs
pub record AreBounding (n : ℕ) (ends : List (Option Ends)) (touches : List Touch) (first : List ℕ) (most : ℕ) : Type 0 where
  pub joins : List Ends
  pub parts : (v : ℕ) → v < n → slice_index first v ≡ first_joined joins v
  pub bound : rank n joins + length (filter (is_between joins ends touches) (every_item touches)) ≤ most

-- the parts bound the pairs of a network's meters
abbrev pub BoundsNetwork : Network → List ℕ → ℕ → Type 0
BoundsNetwork n first most = AreBounding n.graph.vertices n.graph.ends n.meters.touches first most

-- where the parts are known, they bound the pairs of a network's meters
abbrev pub BoundsWhereKnown : Network → Parts → ℕ → Type 0
BoundsWhereKnown n p most = p.known ≡ true → BoundsNetwork n p.first most

-- there is room for the parts of every case with as many rows
pub record HasRoomForParts (t : Tables) (p : Parts) : Type 0 where
  pub vertices : length p.first ≡ case_vertex_room t
  pub positions : p.positions ≡ case_position_count t

-- just the branches of the pairs of flagged meters are held, each with its ends
abbrev pub HoldsOwn : List (Option Ends) → Assignment → List Bool → List (Option Ends) → Type 0
HoldsOwn ends a flags held = (e : ℕ) (x : Ends) → (slice_index_or held e None ≡ Some x) ↔ ((slice_index_or ends e None ≡ Some x) × (m : ℕ) × (has_flag flags m ≡ true) × (branch_at a m ≡ Some e))

-- the meter or the branch of an edit is one of a network
abbrev pub IsPlaceIn : Edit → Network → Type 0
IsPlaceIn (Switch at closed) n = Unit {0}
IsPlaceIn (Branch at inservice) n = at < length n.graph.ends
IsPlaceIn (Meter at inservice) n = at < length n.meters.touches

-- whether an edit takes away a meter that touches a branch between two parts: where it is said to, it does
abbrev pub IsSaidBetween : Edit → Bool → Network → List ℕ → Type 0
IsSaidBetween (Switch at closed) between n first = between ≡ false
IsSaidBetween (Branch at inservice) between n first = between ≡ false
IsSaidBetween (Meter at true) between n first = between ≡ false
IsSaidBetween (Meter at false) between n first = between ≡ true → is_within first n.graph.ends n.meters.touches at ≡ false

-- an edit makes a network this one, and the parts bounded the pairs of the one before; what is said of the edit
pub record AreBoundBefore (edit : Edit) (alone between : Bool) (n : Network) (first : List ℕ) (had : ℕ) : Type 0 where
  pub before : Tables
  pub valid : IsValid before
  pub valid_after : IsValid (edited before edit)
  pub network : n ≡ network_of (edited before edit)
  pub said_alone : IsSaidAlone edit alone (network_of before) n
  pub said_between : IsSaidBetween edit between (network_of before) first
  pub bound : BoundsNetwork (network_of before) first had

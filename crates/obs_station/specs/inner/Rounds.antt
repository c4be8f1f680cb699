-- What is known of the stations and of what reaches the meters, while stations are settled many at once.
use Rattle.std.specs.Prelude.{◌≡◌, ◌≢◌, ℕ, suc, ◌+◌, ◌-◌, ◌<◌, ◌≤◌, ◌⊎◌, Bool, true, false, filter, nat_lt, Option, Some, None, List, length, slice_index, slice_index_or}
use Rattle.obs_graph.specs.declared.Ends.{Ends}
use Rattle.obs_graph.specs.Positions.{AreBranches, sum_below}
use Rattle.obs_switch.specs.Buses.{members_of}
use Rattle.obs_switch.specs.Groups.{items_with}
use Rattle.obs_switch.specs.inner.Groups.{group_start}
use Rattle.obs_meter.specs.declared.Touch.{Touch}
use Rattle.obs_meter.specs.Assignments.{rho_at}
use Rattle.obs_meter.specs.Lost.{is_listed}
use Rattle.obs_meter.specs.inner.Lost.{left_of}
use Rattle.obs_meter.specs.Touches.{live_items}
use Rattle.obs_meter.specs.inner.Touches.{AreInRange}
use Rattle.obs_assign.specs.Assignment.{Assignment}
use Rattle.obs_assign.specs.inner.Assignment.{branch_at}
use Rattle.obs_exchange.specs.inner.Longest.{IsLongest}
use Rattle.obs_exchange.specs.inner.Ordered.{AreReachedInOrder}
use Rattle.obs_station.specs.declared.grouping.Grouping.{Grouping}
use Rattle.obs_station.specs.inner.Held.{AreStationed, Stations, has_any}

-- of each meter the first place and the last place from which it is reached, a list of meters, and of each station the rank without
-- its meters, where that is known
pub record Rounds : Type 0 where
  pub firsts : List ℕ
  pub lasts : List ℕ
  pub list : List ℕ
  pub ranks : List (Option ℕ)

-- the live meters, one station after another
pub record IsByStation (keys : List ℕ) (count : ℕ) (order : List ℕ) : Type 0 where
  pub all : length order ≡ group_start keys count
  pub low : (p : ℕ) → p < length order → slice_index order p < length keys
  pub placed : (m : ℕ) → m < length keys → slice_index keys m < count → (p : ℕ) × (slice_index order p ≡ m)
      × (group_start keys (slice_index keys m) ≤ p) × (p < group_start keys (suc (slice_index keys m)))

-- the list is the order the other way round
pub record IsBackward (order list : List ℕ) : Type 0 where
  pub same : length list ≡ length order
  pub back : (j k : ℕ) → suc (j + k) ≡ length order → slice_index list k ≡ slice_index order j

-- the meters are reached in the order of the stations
abbrev pub AreReachedUp : List (Option Ends) → List Touch → Assignment → List ℕ → ℕ → List ℕ → Type 0
AreReachedUp ends touches a keys count firsts = (order : List ℕ) × IsByStation keys count order × AreReachedInOrder ends touches a order firsts

-- and the other way round
abbrev pub AreReachedDown : List (Option Ends) → List Touch → Assignment → List ℕ → ℕ → List ℕ → Type 0
AreReachedDown ends touches a keys count lasts =
    (order : List ℕ) × (list : List ℕ) × IsByStation keys count order × IsBackward order list × AreReachedInOrder ends touches a list lasts

-- the branches and what the meters touch are the graph's, each station has a node, and each live meter, and no other, has the key of a
-- station
pub record AreGrouped (y : Grouping) : Type 0 where
  pub branches : AreBranches y.graph.now.vertices y.graph.now.ends
  pub in_range : AreInRange y.graph.now y.meters.now.touches
  pub keys : length y.stations.now.keys ≡ length y.meters.now.touches
  pub some : (c : ℕ) → c < y.stations.now.buses.count → 0 < length (members_of y.stations.now.buses.buses c)
  pub stationed : AreStationed y.graph.now y.meters.now.touches y.stations.now

-- besides the pairs are as many as there can be
pub record HasLongest (y : Grouping) (a : Assignment) : Type 0 where
  pub grouped : AreGrouped y
  pub longest : IsLongest y.graph.now y.meters.now.touches a

-- the meters are reached in the order of the stations, and where that is asked for the other way round too
pub record AreReached (y : Grouping) (a : Assignment) (firsts lasts : List ℕ) (both : Bool) : Type 0 where
  pub up : AreReachedUp y.graph.now.ends y.meters.now.touches a y.stations.now.keys y.stations.now.buses.count firsts
  pub down : both ≡ true → AreReachedDown y.graph.now.ends y.meters.now.touches a y.stations.now.keys y.stations.now.buses.count lasts
  pub last_meters : length lasts ≡ length y.meters.now.touches

-- the listed meters that have a pair are reached from no place before the one and none behind the other
abbrev pub AreOwn : Assignment → List ℕ → List ℕ → List ℕ → ℕ → ℕ → Type 0
AreOwn a list firsts lasts before behind =
    (k : ℕ) → k < length list → branch_at a (slice_index list k) ≢ None
    → (before ≤ slice_index firsts (slice_index list k)) × (behind ≤ slice_index lasts (slice_index list k))

-- whether the option is none
abbrev pub lacks : Option ℕ → Bool
lacks None = true
lacks (Some e) = false

-- whether the meter has no pair
abbrev pub is_bare : Assignment → ℕ → Bool
is_bare a m = lacks (branch_at a m)

-- so many of a station's meters cost nothing: at most one is reached at all, and it is this one, or those that have a pair are reached
-- from the station alone, and these are the others
pub record CostNothing (s : Stations) (a : Assignment) (firsts lasts : List ℕ) (both : Bool) (c k : ℕ) : Type 0 where
  pub shown : ((k ≤ 1) × (k ≡ length (filter (λ m. nat_lt (slice_index firsts m) (group_start s.keys s.buses.count)) (items_with s.keys c))))
      ⊎ ((both ≡ true) × (k ≡ length (filter (is_bare a) (items_with s.keys c)))
      × AreOwn a (items_with s.keys c) firsts lasts (group_start s.keys c) (group_start s.keys s.buses.count - group_start s.keys (suc c)))

-- the rank without the meters of a station
abbrev pub rank_left : Grouping → ℕ → ℕ
rank_left y c =
    rho_at y.graph.now.vertices y.graph.now.ends y.meters.now.touches
    (left_of (is_listed (items_with y.stations.now.keys c)) (live_items y.graph.now.ends y.meters.now.touches))

-- where the rank is known it is the one without the station's meters, and the station has live ones
abbrev pub AreRanked : Grouping → List (Option ℕ) → Type 0
AreRanked y ranks = (c r : ℕ) → slice_index_or ranks c None ≡ Some r → (has_any y.stations.now c ≡ true) × (r ≡ rank_left y c)

-- how many searches a station may take that has so many live meters, where its rank is known
abbrev pub allowed : ℕ → Option ℕ → ℕ
allowed lost None = 0
allowed lost (Some r) = suc lost

-- how many searches the stations may take whose ranks are known
abbrev pub allowance : Stations → List (Option ℕ) → ℕ → ℕ
allowance s ranks = sum_below (λ c. allowed (length (items_with s.keys c)) (slice_index_or ranks c None))

-- What the losses of stations are found with, and what is left once some are found.
use Rattle.std.specs.Prelude.{◌≡◌, ℕ, ◌+◌, ◌≤◌, None, length, slice_index, slice_index_or}
use Rattle.obs_meter.specs.inner.Sizes.{HasRoomFor}
use Rattle.obs_assign.specs.Assignment.{Assignment}
use Rattle.obs_assign.specs.inner.Assignment.{HasRoomOf}
use Rattle.obs_exchange.specs.declared.Sources.TheVariants.{All}
use Rattle.obs_exchange.specs.inner.Closed.{IsSource}
use Rattle.obs_station.specs.declared.grouping.Grouping.{Grouping}
use Rattle.obs_station.specs.declared.room.Room.{Room}
use Rattle.obs_station.specs.inner.Rounds.{HasLongest, AreRanked, Rounds, allowance}

-- the pairs are as many as there can be, no meter is lost, and there is room for a search
pub record MayLoseStation (y : Grouping) (a : Assignment) (r : Room) : Type 0 where
  pub paired : HasLongest y a
  pub room : HasRoomFor r.exchange.sizes y.graph.now y.meters.now.touches
  pub left : r.left.touches ≡ y.meters.now.touches

-- it is ready again, the turns rose by no more than the ticks did, from s to t, and there is as much room
pub record GoesOn (y : Grouping) (a b : Assignment) (r q : Room) (s t : ℕ) : Type 0 where
  pub ready : MayLoseStation y b q
  pub left : q.left ≡ r.left
  pub turns_rise : a.turns ≤ b.turns
  pub ticks_rise : s ≤ t
  pub turns_most : b.turns + s ≤ a.turns + t
  pub same_room : HasRoomOf a b
  pub same_sizes : q.exchange.sizes ≡ r.exchange.sizes

-- there is a place for each meter and one for each station
pub record HasPlaces (y : Grouping) (r : Rounds) : Type 0 where
  pub meters : length r.firsts ≡ length y.meters.now.touches
  pub nodes : y.stations.now.buses.count ≤ length r.ranks

-- there are as many places
pub record IsAsLarge (r q : Rounds) : Type 0 where
  pub meters : length q.firsts ≡ length r.firsts
  pub nodes : length q.ranks ≡ length r.ranks

-- besides the known ranks are right
pub record AreKnown (y : Grouping) (r : Rounds) : Type 0 where
  pub places : HasPlaces y r
  pub ranked : AreRanked y r.ranks

-- no live meter without a pair is of a station whose rank isn't known
abbrev pub NoneVacant : Grouping → Assignment → Rounds → Type 0
NoneVacant y a r =
    (m : ℕ) → IsSource y.graph.now.ends y.meters.now.touches All a m → slice_index_or r.ranks (slice_index y.stations.now.keys m) None ≡ None → ⊥

-- from p to w further ranks may be known. Beside so many searches that are given, and so many that are left, the ticks rose by no more
-- than the stations may take whose ranks are known now and weren't before
pub record HasSettled (y : Grouping) (a b : Assignment) (r q : Room) (p w : Rounds) (s t given left : ℕ) : Type 0 where
  pub goes_on : GoesOn y a b r q s t
  pub known : AreKnown y w
  pub searched : t + (left + allowance y.stations.now p.ranks y.stations.now.buses.count)
      ≤ s + (given + allowance y.stations.now w.ranks y.stations.now.buses.count)
  pub as_large : IsAsLarge p w

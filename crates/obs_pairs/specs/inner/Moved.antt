-- What a search for classes asks of pairs, and what it keeps.
use Rattle.std.specs.Prelude.{◌≡◌, ◌+◌, ◌<◌, ◌≤◌, ◌^◌, List, length}
use Rattle.obs_graph.specs.Graph.{Graph}
use Rattle.obs_graph.specs.Positions.{AreBranches}
use Rattle.obs_meter.specs.declared.Touch.{Touch}
use Rattle.obs_meter.specs.inner.Sizes.{HasRoomFor}
use Rattle.obs_meter.specs.inner.Touches.{AreInRange}
use Rattle.obs_assign.specs.Assignment.{Assignment}
use Rattle.obs_assign.specs.inner.Assignment.{HasRoomOf}
use Rattle.obs_exchange.specs.declared.over.Over.{Over}
use Rattle.obs_exchange.specs.inner.Found.{Work}
use Rattle.obs_exchange.specs.inner.Longest.{IsLongest}
use Rattle.obs_pairs.specs.declared.room.Room.{Room}

-- the pairs are as many as they can be, and there is room for a search
pub record MaySearch (g : Graph) (touches : List Touch) (a : Assignment) (work : Work) : Type 0 where
  pub branches : AreBranches g.vertices g.ends
  pub in_range : AreInRange g touches
  pub few : length touches < 2 ^ 32
  pub longest : IsLongest g touches a
  pub room : HasRoomFor work.sizes g touches

-- besides no meter is lost, and there is room for an order of the meters and a place for each
pub record MayLose (o : Over) (a : Assignment) (r : Room) : Type 0 where
  pub search : MaySearch o.graph.now o.meters.now.touches a r.exchange
  pub left : r.left.touches ≡ o.meters.now.touches
  pub reach : length o.meters.now.touches + length o.meters.now.touches ≤ length r.reach.items

-- a meter may be lost again: other pairs perhaps, as many, and all sizes are as before
pub record IsMoved (o : Over) (a b : Assignment) (r q : Room) : Type 0 where
  pub may : MayLose o b q
  pub left : q.left ≡ r.left
  pub same_room : HasRoomOf a b
  pub same_sizes : q.exchange.sizes ≡ r.exchange.sizes
  pub same_reach : length q.reach.items ≡ length r.reach.items

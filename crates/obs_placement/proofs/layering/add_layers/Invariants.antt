use Rattle.std.proofs.Common.{◌≡◌, length}
use Rattle.obs_placement.specs.inner.Choosing.{AreFirstBelow}
use Rattle.obs_placement.specs.inner.Counting.{AreCounted}
use Rattle.obs_placement.specs.inner.Offer.{price_in}
use Rattle.obs_placement.specs.inner.Order.{IsOrder}
use Rattle.obs_placement.specs.inner.Taking.{since_at}
use Rattle.obs_placement.proofs.LaidOut.{IsLaying}
use Rattle.obs_placement.proofs.layering.add_layers.Given as goal

abbrev pub invariant-loop-k : goal.invariant-loop-k
invariant-loop-k l =
    IsLaying l.offer.graph.now.vertices l.offer.graph.now.ends l.offer.items.now.touches l.offer.meters l.offer.prices.now l.choosing.keys l.choosing.since l.k l.last l.laying.layers l.laying.inside
    × AreCounted l.offer.graph.now l.offer.items.now.touches (price_in l.offer) l.choosing.keys l.k l.tally × (l.laying.room ≡ l.fn.laying.room)
    × IsOrder (since_at l.choosing.since) (length l.choosing.since) l.laying.keys
    × AreFirstBelow l.choosing.since l.laying.keys (length l.laying.inside) l.last

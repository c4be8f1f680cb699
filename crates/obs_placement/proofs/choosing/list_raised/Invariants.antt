use Rattle.obs_placement.specs.inner.Taking.{is_raised}
use Rattle.obs_placement.proofs.Listing.{AreListed}
use Rattle.obs_placement.proofs.choosing.list_raised.Given as goal

abbrev pub invariant-loop-k : goal.invariant-loop-k
invariant-loop-k l = AreListed (is_raised l.raised l.offer.meters) l.offer.prices.now l.list l.count l.cost l.k

use Rattle.std.proofs.Common.{length}
use Rattle.obs_placement.specs.inner.Offer.{price_in}
use Rattle.obs_placement.proofs.Ordered.{AreWritten}
use Rattle.obs_placement.proofs.order.number.Given as goal

abbrev pub invariant-loop-m : goal.invariant-loop-m
invariant-loop-m l = AreWritten (price_in l.offer) (length l.offer.items.now.touches) l.m l.keys

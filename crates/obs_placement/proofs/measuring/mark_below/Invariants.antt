use Rattle.std.proofs.Common.{length}
use Rattle.obs_placement.specs.inner.Offer.{price_in}
use Rattle.obs_placement.specs.Taking.{is_below}
use Rattle.obs_placement.proofs.Measures.{AreTested}
use Rattle.obs_placement.proofs.measuring.mark_below.Given as goal

abbrev pub invariant-loop-m : goal.invariant-loop-m
invariant-loop-m l = AreTested (is_below (price_in l.offer) l.to) (length l.offer.items.now.touches) l.m l.scope

use Rattle.obs_exchange.specs.inner.Ordered.{IsPlacing}
use Rattle.obs_exchange.specs.inner.Searching.{IsAsLarge}
use Rattle.obs_exchange.proofs.ordered.spread_in_order.Given as goal

abbrev pub invariant-loop-k : goal.invariant-loop-k
invariant-loop-k l = record {
  placing : IsPlacing l.over l.order l.search l.places l.k;
  as_large : IsAsLarge l.fn.search l.search;
}

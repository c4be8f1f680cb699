use Rattle.std.proofs.Common.{◌≡◌}
use Rattle.obs_islands.specs.inner.Rounds.{noted}
use Rattle.obs_islands.proofs.Crossing.{IsKeeping}
use Rattle.obs_islands.proofs.discard.keep_others.Given as goal

abbrev pub invariant-loop-m : goal.invariant-loop-m
invariant-loop-m l = record {
  keeping : IsKeeping l.g.ends (noted l.lowest) l.fn.used.touches l.used.touches l.m l.some;
  most : l.used.most ≡ l.fn.used.most;
}

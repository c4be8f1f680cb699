use Rattle.std.proofs.Common.{◌≡◌, length}
use Rattle.obs_exchange.specs.inner.Noting.{AreBlocks, HasFlags}
use Rattle.obs_exchange.proofs.noted.put_sources.Given as goal

abbrev pub invariant-loop-m : goal.invariant-loop-m
invariant-loop-m l = record {
  sources : HasFlags l.over l.flags l.m;
  length : length l.flags ≡ length l.fn.flags;
  blocks : AreBlocks l.flags l.blocks;
}

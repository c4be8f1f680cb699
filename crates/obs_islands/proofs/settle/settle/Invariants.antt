use Rattle.std.proofs.Common.{◌≡◌}
use Rattle.obs_graph.specs.inner.Search.{room_of}
use Rattle.obs_islands.proofs.Crossing.{hubs}
use Rattle.obs_islands.proofs.Settling.{IsNamed, IsSettling}
use Rattle.obs_islands.proofs.settle.settle.Given as goal

abbrev pub invariant-loop-used : goal.invariant-loop-used
invariant-loop-used l = record {
  settling : IsSettling l.over.graph.now l.fn.used.touches l.used.touches l.over.pairs.now;
  named : IsNamed l.over.graph.now l.used.touches l.over.pairs.now l.firsts;
  most : l.used.most ≡ l.fn.used.most;
  room : room_of l.search ≡ room_of l.fn.search;
}

abbrev pub decreases-loop-used : goal.decreases-loop-used
decreases-loop-used l = hubs l.used.touches

use Rattle.std.proofs.Common.{◌<◌, length}
use Rattle.obs_islands.specs.inner.GivenUp.{IsQueue, StillGivesUp}
use Rattle.obs_islands.specs.inner.Rounds.{noted}
use Rattle.obs_islands.proofs.follow.follow_vertex.Given as goal

abbrev pub invariant-loop-e : goal.invariant-loop-e
invariant-loop-e l = record {
  gives_up : StillGivesUp l.over.graph.now.ends l.ms.touches l.over.pairs.now (noted l.fn.lowest) (noted l.lowest);
  noted_there : noted l.lowest l.v < length l.over.graph.now.ends;
  queue : IsQueue (length l.over.graph.now.ends) l.lowest l.queue l.tail;
}

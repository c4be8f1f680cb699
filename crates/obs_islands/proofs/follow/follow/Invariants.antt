use Rattle.std.proofs.Common.{◌-◌, length}
use Rattle.obs_islands.specs.inner.GivenUp.{IsQueue, StillGivesUp}
use Rattle.obs_islands.specs.inner.Rounds.{noted}
use Rattle.obs_islands.proofs.follow.follow.Given as goal

abbrev pub invariant-loop-head : goal.invariant-loop-head
invariant-loop-head l = record {
  gives_up : StillGivesUp l.over.graph.now.ends l.ms.touches l.over.pairs.now (noted l.fn.lowest) (noted l.lowest);
  queue : IsQueue (length l.over.graph.now.ends) l.lowest l.queue l.tail;
}

abbrev pub decreases-loop-head : goal.decreases-loop-head
decreases-loop-head l = l.over.graph.now.vertices - l.head

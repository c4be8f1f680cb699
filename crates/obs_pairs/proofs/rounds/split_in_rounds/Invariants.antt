use Rattle.obs_pairs.specs.inner.Moved.{IsMoved}
use Rattle.obs_pairs.specs.inner.Settled.{AreSettled}
use Rattle.obs_pairs.proofs.rounds.split_in_rounds.Given as goal

abbrev pub invariant-loop-round : goal.invariant-loop-round
invariant-loop-round g l = record {
  settled : AreSettled l.over.graph.now.vertices l.over.graph.now.ends l.over.meters.now.touches l.waiting l.list 0;
  moved : IsMoved l.over l.fn.a l.a l.fn.room l.room;
}

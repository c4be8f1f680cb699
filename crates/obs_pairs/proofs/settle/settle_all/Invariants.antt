use Rattle.obs_pairs.specs.inner.Moved.{IsMoved}
use Rattle.obs_pairs.specs.inner.Settled.{AreSettled}
use Rattle.obs_pairs.proofs.settle.settle_all.Given as goal

abbrev pub invariant-loop-m : goal.invariant-loop-m
invariant-loop-m g l = record {
  settled : AreSettled l.over.graph.now.vertices l.over.graph.now.ends l.over.meters.now.touches l.waiting l.list l.m;
  moved : IsMoved l.over l.fn.a l.a l.fn.room l.room;
}

use Rattle.std.proofs.Common.{ℕ, length, subst, arith}
use Rattle.obs_islands.specs.inner.GivenUp.{IsQueue}
use Rattle.obs_islands.specs.inner.Rounds.{noted}
use Rattle.obs_islands.proofs.Following.{StillGivesUp-refl, StillGivesUp-then, tail_low}
use Rattle.obs_islands.proofs.follow.follow.Goals as goal

pub loop-head-init : goal.loop-head-init
loop-head-init c = record {
  gives_up = StillGivesUp-refl c.args.over.now.graph.now.ends c.args.ms.now.touches c.args.over.now.pairs.now (noted c.args.lowest.now);
  queue = subst (λ (n : ℕ). IsQueue n c.args.lowest.now c.fill_queue-tail.new.queue c.fill_queue-tail.result) c.positions.ensures.count c.fill_queue-tail.ensures.queue;
}

pub offset_bounds-queue-head : goal.offset_bounds-queue-head
offset_bounds-queue-head c =
    let low = tail_low (length c.args.over.now.graph.now.ends) c.loop-head.lowest c.loop-head.queue c.loop-head.tail c.loop-head.invariant.queue in
    omega (arith, low, c.loop-head-test.true, c.loop-head.auto.lowest, c.requires.lowest, c.requires.few)

pub bounds-queue-head : goal.bounds-queue-head
bounds-queue-head c =
    let low = tail_low (length c.args.over.now.graph.now.ends) c.loop-head.lowest c.loop-head.queue c.loop-head.tail c.loop-head.invariant.queue in
    omega (arith, low, c.loop-head-test.true, c.loop-head.invariant.queue.places)

pub loop-head-smaller : goal.loop-head-smaller
loop-head-smaller c =
    let low = tail_low (length c.args.over.now.graph.now.ends) c.loop-head.lowest c.loop-head.queue c.loop-head.tail c.loop-head.invariant.queue in
    omega (arith, low, c.loop-head-test.true, c.loop-head.auto.lowest, c.requires.lowest)

pub loop-head-preserved : goal.loop-head-preserved
loop-head-preserved c = record {
  gives_up = StillGivesUp-then c.args.over.now.graph.now.ends c.args.ms.now.touches c.args.over.now.pairs.now (noted c.args.lowest.now) (noted c.loop-head.lowest) (noted c.follow_vertex.new.lowest)
      c.loop-head.invariant.gives_up c.follow_vertex.ensures.gives_up;
  queue = c.follow_vertex.ensures.queue;
}

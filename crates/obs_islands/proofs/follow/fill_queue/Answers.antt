use Rattle.std.proofs.Common.{arith}
use Rattle.obs_graph.proofs.Counts.{count_below-le-n}
use Rattle.obs_islands.specs.inner.GivenUp.{is_noted}
use Rattle.obs_islands.proofs.Following.{IsFilling-more, IsFilling-same}
use Rattle.obs_islands.proofs.Noting.{noted_is}
use Rattle.obs_islands.proofs.follow.fill_queue.Goals as goal
use Rattle.obs_islands.proofs.follow.fill_queue.Goals.{then-lowest-v, else-lowest-v}

pub push-requires : goal.push-requires
push-requires c =
    let l = count_below-le-n (is_noted c.args.positions c.args.lowest.now) c.loop-v.v in
    record { room = omega (arith, l, c.loop-v.invariant.count, c.loop-v-test.true, c.requires.places) }

pub loop-v-preserved : goal.loop-v-preserved
loop-v-preserved c =
    let read = noted_is c.args.lowest.now c.loop-v.v 0 c.loop-v-test.true in
    elim c.if-lowest-v.branch [
      | then-lowest-v w ↦ rw (w.queue-is, w.tail-is, w.push.ensures.queue, w.push.ensures.tail)
          (IsFilling-more c.args.positions c.args.lowest.now c.loop-v.queue c.loop-v.tail c.loop-v.v c.loop-v.invariant (omega (arith, read, w.if-lowest-v.true))
          (let l = count_below-le-n (is_noted c.args.positions c.args.lowest.now) c.loop-v.v in omega (arith, l, c.loop-v.invariant.count, c.loop-v-test.true, c.requires.places)))
      | else-lowest-v w ↦ rw (w.queue-is, w.tail-is)
          (IsFilling-same c.args.positions c.args.lowest.now c.loop-v.queue c.loop-v.tail c.loop-v.v c.loop-v.invariant (omega (arith, read, w.if-lowest-v.false)))
    ]

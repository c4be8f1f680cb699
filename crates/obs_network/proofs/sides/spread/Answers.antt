use Rattle.std.proofs.Common.{◌+◌, sym, arith}
use Rattle.obs_network.specs.declared.sides.Walked.{Walked}
use Rattle.obs_network.specs.inner.Sides.{rows_in}
use Rattle.obs_network.proofs.Spreading.{AreWalked-begun, AreWalked-step, AreWalked-swap}
use Rattle.obs_network.proofs.sides.spread.Goals as goal

pub loop-met-init : goal.loop-met-init
loop-met-init c =
    let g = c.args.others.now.graph.now in
    let r = c.requires in
    rw (c.push-2.ensures.labels, c.push.ensures.labels, c.push.ensures.queue, c.push-2.ensures.queue, c.push.ensures.tail, c.push-2.ensures.tail)
    (AreWalked-begun g.vertices (rows_in c.args.others.now) c.args.labels.now c.args.one c.args.there c.args.queue.now c.args.queue_there.now r.clear r.places r.places_there r.room r.one r.there r.apart)

pub follow-met-requires-clause-followed : goal.follow-met-requires-clause-followed
follow-met-requires-clause-followed c = c.loop-met.invariant.followed c.loop-met-test.true

pub loop-met-smaller-then-next-next_there : goal.loop-met-smaller-then-next-next_there
loop-met-smaller-then-next-next_there c = omega (arith, c.loop-met.invariant.here.few, c.loop-met.auto.queue, c.requires.places, c.if-head-tail.true)

pub loop-met-preserved-then-next-next_there : goal.loop-met-preserved-then-next-next_there
loop-met-preserved-then-next-next_there c =
    let g = c.args.others.now.graph.now in
    let l = c.loop-met in
    let f = c.follow-met in
    let w : Walked = record { met = l.met; head = l.head; tail = l.tail; head_there = l.head_there; tail_there = l.tail_there } in
    AreWalked-step g.vertices (rows_in c.args.others.now) l.labels c.args.one c.args.there l.queue l.queue_there w l.invariant c.loop-met-test.true c.if-head-tail.true c.requires.apart
    f.new.labels f.new.queue f.new.tail f.result f.auto.labels f.ensures.queue f.ensures.followed f.ensures.met f.ensures.grown f.ensures.longer

pub follow-met-requires-else-next-next_there-clause-followed : goal.follow-met-requires-else-next-next_there-clause-followed
follow-met-requires-else-next-next_there-clause-followed c = c.loop-met.invariant.followed_there c.loop-met-test.true

pub loop-met-smaller : goal.loop-met-smaller
loop-met-smaller c = omega (arith, c.loop-met.invariant.there.few, c.loop-met.auto.queue_there, c.requires.places_there, c.if-head_there-tail_there.true)

pub loop-met-preserved : goal.loop-met-preserved
loop-met-preserved c =
    let g = c.args.others.now.graph.now in
    let held = rows_in c.args.others.now in
    let l = c.loop-met in
    let f = c.follow-met-else-next-next_there in
    let w : Walked = record { met = l.met; head = l.head; tail = l.tail; head_there = l.head_there; tail_there = l.tail_there } in
    let back : Walked = record { met = l.met; head = l.head_there; tail = l.tail_there; head_there = l.head; tail_there = l.tail } in
    let after : Walked = record { met = f.result; head = l.head_there + 1; tail = f.new.tail; head_there = l.head; tail_there = l.tail } in
    AreWalked-swap g.vertices held f.new.labels c.args.there c.args.one f.new.queue l.queue after
    (AreWalked-step g.vertices held l.labels c.args.there c.args.one l.queue_there l.queue back (AreWalked-swap g.vertices held l.labels c.args.one c.args.there l.queue l.queue_there w l.invariant)
    c.loop-met-test.true c.if-head_there-tail_there.true (λ e. c.requires.apart (sym e))
    f.new.labels f.new.queue f.new.tail f.result f.auto.labels f.ensures.queue f.ensures.followed f.ensures.met f.ensures.grown f.ensures.longer)

pub bounds-queue-head : goal.bounds-queue-head
bounds-queue-head c = omega (arith, c.loop-met.invariant.here.few, c.if-head-tail.true)

pub bounds-queue_there-head_there : goal.bounds-queue_there-head_there
bounds-queue_there-head_there c = omega (arith, c.loop-met.invariant.there.few, c.if-head_there-tail_there.true)

pub looked_at-next-requires : goal.looked_at-next-requires
looked_at-next-requires c = record { vertex = c.loop-met.invariant.here.below c.loop-met.head c.if-head-tail.true }

pub looked_at-next_there-requires : goal.looked_at-next_there-requires
looked_at-next_there-requires c = record { vertex = c.loop-met.invariant.there.below c.loop-met.head_there c.if-head_there-tail_there.true }

pub follow-met-requires-clause-queue : goal.follow-met-requires-clause-queue
follow-met-requires-clause-queue c = c.loop-met.invariant.here

pub follow-met-requires-else-next-next_there-clause-queue : goal.follow-met-requires-else-next-next_there-clause-queue
follow-met-requires-else-next-next_there-clause-queue c = c.loop-met.invariant.there

pub returns-else-head_there-tail_there-clause-walked : goal.returns-else-head_there-tail_there-clause-walked
returns-else-head_there-tail_there-clause-walked c = c.loop-met.invariant

pub returns-else-head-tail-clause-walked : goal.returns-else-head-tail-clause-walked
returns-else-head-tail-clause-walked c = c.loop-met.invariant

pub returns-after-loop-met-clause-walked : goal.returns-after-loop-met-clause-walked
returns-after-loop-met-clause-walked c = c.loop-met.invariant

use Rattle.std.proofs.Common.{◌+◌, ◌-◌, length}
use Rattle.obs_network.specs.inner.Sides.{AreWalked, rows_in}
use Rattle.obs_network.proofs.sides.spread.Given as goal

abbrev pub invariant-loop-met : goal.invariant-loop-met
invariant-loop-met l = AreWalked l.others.graph.now.vertices (rows_in l.others) l.labels l.one l.there l.queue l.queue_there
    (record { met = l.met; head = l.head; tail = l.tail; head_there = l.head_there; tail_there = l.tail_there })

abbrev pub decreases-loop-met : goal.decreases-loop-met
decreases-loop-met l = (length l.fn.labels - l.head) + (length l.fn.labels - l.head_there)

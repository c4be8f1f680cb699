use Rattle.obs_islands.proofs.Following.{IsFilling}
use Rattle.obs_islands.proofs.follow.fill_queue.Given as goal

abbrev pub invariant-loop-v : goal.invariant-loop-v
invariant-loop-v l = IsFilling l.positions l.lowest l.queue l.tail l.v

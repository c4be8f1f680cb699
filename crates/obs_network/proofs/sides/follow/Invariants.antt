use Rattle.obs_network.specs.inner.Sides.{rows_in}
use Rattle.obs_network.proofs.FollowedRows.{IsFollowing}
use Rattle.obs_network.proofs.sides.follow.Given as goal

abbrev pub invariant-loop-p : goal.invariant-loop-p
invariant-loop-p l = IsFollowing l.others.graph.now.vertices (rows_in l.others) l.end l.v l.head l.p-items l.fn.labels l.fn.tail l.labels l.queue l.tail l.p-index

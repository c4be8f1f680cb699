use Rattle.std.proofs.Common.{take}
use Rattle.obs_network.specs.inner.Following.{AreFollowed, followed}
use Rattle.obs_network.proofs.following.follow_behind.Given as goal

abbrev pub invariant-loop-m : goal.invariant-loop-m
invariant-loop-m l = AreFollowed (followed (take l.fn.rows l.graph.ends) l.fn.change.before l.fn.change.after) l.fn.items l.items l.fn.first l.m

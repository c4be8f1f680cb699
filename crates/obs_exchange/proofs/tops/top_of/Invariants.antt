use Rattle.std.proofs.Common.{get_or}
use Rattle.obs_exchange.proofs.Classes.{IsRising}
use Rattle.obs_exchange.proofs.tops.top_of.Given as goal

abbrev pub invariant-loop-x : goal.invariant-loop-x
invariant-loop-x l = IsRising l.over l.fn.tops l.tops l.v l.x

abbrev pub decreases-loop-x : goal.decreases-loop-x
decreases-loop-x l = get_or l.over.depths l.x 0

use Rattle.std.proofs.Common.{◌+◌, get_or}
use Rattle.obs_exchange.proofs.Upward.{IsMeeting}
use Rattle.obs_exchange.proofs.walk.reach_needed.Given as goal

abbrev pub invariant-loop-u : goal.invariant-loop-u
invariant-loop-u l = IsMeeting l.over l.fn.trail l.trail l.by.meter l.by.branch l.tops l.u l.v

abbrev pub decreases-loop-u : goal.decreases-loop-u
decreases-loop-u l = get_or l.over.depths l.u 0 + get_or l.over.depths l.v 0

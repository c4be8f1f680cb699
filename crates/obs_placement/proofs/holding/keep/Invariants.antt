use Rattle.std.proofs.Common.{◌≡◌, take}
use Rattle.obs_assign.specs.inner.Assignment.{HasRoomOf}
use Rattle.obs_placement.specs.inner.Holding.{StandsBeside}
use Rattle.obs_placement.specs.inner.Taking.{AreKept}
use Rattle.obs_placement.proofs.holding.keep.Given as goal

abbrev pub invariant-loop-m : goal.invariant-loop-m
invariant-loop-m g l = AreKept (take l.m-index l.reached) l.price l.fn.known.since l.known.since × (l.pairs.slots ≡ l.fn.pairs.slots)
    × StandsBeside l.offer l.pairs l.known × HasRoomOf l.fn.pairs l.pairs × (l.known.sizes ≡ l.fn.known.sizes)

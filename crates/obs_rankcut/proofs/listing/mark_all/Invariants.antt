use Rattle.std.proofs.Common.{take}
use Rattle.obs_rankcut.specs.inner.Marks.{AreMarkedToo}
use Rattle.obs_rankcut.proofs.listing.mark_all.Given as goal

abbrev pub invariant-loop-e : goal.invariant-loop-e
invariant-loop-e l = AreMarkedToo l.fn.flags (take l.e-index l.positions) l.flags

use Rattle.std.proofs.Common.{◌≡◌, drop}
use Rattle.obs_assign.specs.inner.Kept.{with_slots}
use Rattle.obs_assign.proofs.Handing.{IsHanding}
use Rattle.obs_assign.proofs.path.hand_on.Given as goal

abbrev pub invariant-loop-i : goal.invariant-loop-i
invariant-loop-i l = record {
  held : l.kept ≡ with_slots l.fn.kept l.g l.kept.slots;
  handing : IsHanding l.path l.fn.kept.slots (drop l.i l.path) l.kept.slots;
}

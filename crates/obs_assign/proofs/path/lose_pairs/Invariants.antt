use Rattle.std.proofs.Common.{◌≡◌, drop}
use Rattle.obs_assign.specs.inner.Kept.{with_slots}
use Rattle.obs_assign.proofs.Stepping.{IsLosing}
use Rattle.obs_assign.proofs.path.lose_pairs.Given as goal

abbrev pub invariant-loop-x : goal.invariant-loop-x
invariant-loop-x l = record {
  held : l.kept ≡ with_slots l.fn.kept l.g l.kept.slots;
  losing : IsLosing l.path l.fn.kept.slots (drop l.x-index l.path) l.kept.slots;
}

use Rattle.std.proofs.Common.{◌≡◌, length}
use Rattle.obs_assign.specs.inner.Assignment.{HasRoomOf}
use Rattle.obs_first.specs.inner.Deciding.{IsDecided, IsReady, frozen_pairs}
use Rattle.obs_first.proofs.least.first.Given as goal

abbrev pub invariant-loop-m : goal.invariant-loop-m
invariant-loop-m g l = record {
  decided : IsDecided l.g.ends l.ms.touches l.a l.m l.rank;
  taken : l.taken ≡ length (frozen_pairs l.a);
  ready : IsReady l.g l.ms.touches l.a l.work l.rank;
  same_room : HasRoomOf l.fn.a l.a;
  same_sizes : l.work.sizes ≡ l.fn.work.sizes;
}

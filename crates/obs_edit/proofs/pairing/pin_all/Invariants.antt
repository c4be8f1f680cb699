use Rattle.obs_assign.specs.inner.Assignment.{HasRoomOf, StandsOver}
use Rattle.obs_edit.proofs.pairing.pin_all.Given as goal

abbrev pub invariant-loop-m : goal.invariant-loop-m
invariant-loop-m g l = record {
  stands : StandsOver l.pairs l.g l.items.touches;
  room : HasRoomOf l.fn.pairs l.pairs;
}

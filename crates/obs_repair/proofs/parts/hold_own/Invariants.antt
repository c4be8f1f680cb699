use Rattle.std.proofs.Common.{◌≡◌, length}
use Rattle.obs_repair.proofs.HeldPairs.{HoldsBelow}
use Rattle.obs_repair.proofs.parts.hold_own.Given as goal

abbrev pub invariant-loop-m : goal.invariant-loop-m
invariant-loop-m l = HoldsBelow l.g.ends l.a l.flags l.m l.held × (length l.held ≡ length l.fn.held)

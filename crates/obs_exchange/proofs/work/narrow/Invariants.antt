use Rattle.std.proofs.Common.{◌≡◌, length}
use Rattle.obs_exchange.proofs.Flagging.{AreNarrowed}
use Rattle.obs_exchange.proofs.work.narrow.Given as goal

abbrev pub invariant-loop-m : goal.invariant-loop-m
invariant-loop-m l = record {
  narrowed : AreNarrowed l.fn.flags l.kept l.flags l.m;
  length : length l.flags ≡ length l.fn.flags;
}

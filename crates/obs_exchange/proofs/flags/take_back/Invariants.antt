use Rattle.std.proofs.Common.{◌≡◌, length}
use Rattle.obs_exchange.specs.inner.Blank.{AreListedFrom}
use Rattle.obs_exchange.proofs.flags.take_back.Given as goal

abbrev pub invariant-loop-i : goal.invariant-loop-i
invariant-loop-i l = record {
  listed : AreListedFrom l.flags l.list l.i l.count;
  length : length l.flags ≡ length l.fn.flags;
}

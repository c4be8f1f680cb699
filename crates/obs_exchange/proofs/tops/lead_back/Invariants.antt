use Rattle.std.proofs.Common.{◌≡◌, length}
use Rattle.obs_exchange.specs.inner.Blank.{AreLedFrom}
use Rattle.obs_exchange.proofs.tops.lead_back.Given as goal

abbrev pub invariant-loop-i : goal.invariant-loop-i
invariant-loop-i l = record {
  led : AreLedFrom l.tops l.list l.i l.count;
  length : length l.tops ≡ length l.fn.tops;
}

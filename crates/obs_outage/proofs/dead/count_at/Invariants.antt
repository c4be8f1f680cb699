use Rattle.std.proofs.Common.{◌≡◌, ◌≤◌, take}
use Rattle.std.specs.Prelude.{count_by}
use Rattle.obs_outage.specs.inner.Lost.{counts_at}
use Rattle.obs_outage.proofs.dead.count_at.Given as goal

abbrev pub invariant-loop-k : goal.invariant-loop-k
invariant-loop-k l = record {
  counted : l.count ≡ count_by (counts_at l.g.ends l.pairs.forest.held l.e l.v) (take l.k-index l.branches);
  small : l.count ≤ l.k-index;
}

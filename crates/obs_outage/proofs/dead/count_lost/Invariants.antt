use Rattle.std.proofs.Common.{◌≡◌, ◌≤◌, ◌*◌, take}
use Rattle.std.specs.Prelude.{count_by, sum_by}
use Rattle.obs_graph.specs.Positions.{branches_at}
use Rattle.obs_outage.specs.inner.Lost.{counts_at}
use Rattle.obs_outage.proofs.dead.count_lost.Given as goal

abbrev pub invariant-loop-v : goal.invariant-loop-v
invariant-loop-v l = record {
  added : l.sum ≡ sum_by (λ v. count_by (counts_at l.g.ends l.pairs.forest.held l.e v) (branches_at l.g.ends v)) (take l.v-index l.side);
  small : l.sum ≤ 4294967295 * l.v-index;
}

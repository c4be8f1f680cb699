use Rattle.std.proofs.Common.{ℕ, ◌<◌, None, get_or}
use Rattle.obs_islands.specs.inner.Left.{IsLeftAt}
use Rattle.obs_islands.proofs.left.hold_left.Given as goal

abbrev pub invariant-loop-e : goal.invariant-loop-e
invariant-loop-e l = record {
  done : (k : ℕ) → k < l.e → IsLeftAt l.over.graph.now.ends l.used.touches l.over.pairs.now k (get_or l.held k None);
}

use Rattle.std.proofs.Common.{◌≡◌, ℕ}
use Rattle.obs_first.specs.inner.Deciding.{IsMoved, IsReady}
use Rattle.obs_first.proofs.trying.wins_near.Given as goal

abbrev pub invariant-loop-k : goal.invariant-loop-k
invariant-loop-k g l = record {
  same : l.a ≡ l.fn.a;
  moved : (long : ℕ) → IsReady l.over.graph.now l.over.meters.now.touches l.fn.a l.fn.work long → IsMoved l.over.graph.now l.over.meters.now.touches l.fn.a l.a l.fn.work l.work long;
}

use Rattle.std.proofs.Common.{◌≡◌, ◌<◌, ℕ, None, get_or}
use Rattle.obs_graph.proofs.Marked.{kept_at}
use Rattle.obs_graph.proofs.rank.hold_marked.Given as goal

abbrev pub invariant-loop-p : goal.invariant-loop-p
invariant-loop-p l = (k : ℕ) → k < l.p → get_or l.held k None ≡ kept_at l.g.ends l.marked k

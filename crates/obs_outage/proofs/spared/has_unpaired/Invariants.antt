use Rattle.std.proofs.Common.{◌≡◌, ◌<◌, ℕ, None, Some, get_or}
use Rattle.obs_graph.specs.declared.Ends.{Ends}
use Rattle.obs_assign.specs.inner.Assignment.{branch_at}
use Rattle.obs_outage.proofs.spared.has_unpaired.Given as goal

abbrev pub invariant-loop-e : goal.invariant-loop-e
invariant-loop-e l = (k : ℕ) (x : Ends) → k < l.e → get_or l.part.ends k None ≡ Some x → (m : ℕ) × (branch_at l.pairs m ≡ Some k)

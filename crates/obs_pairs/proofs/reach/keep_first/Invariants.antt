use Rattle.std.proofs.Common.{ℕ, cond, get_or}
use Rattle.obs_assign.specs.inner.Assignment.{has_flag}
use Rattle.obs_pairs.proofs.Mapped.{IsMapped}
use Rattle.obs_pairs.proofs.reach.keep_first.Given as goal

abbrev pub invariant-loop-k : goal.invariant-loop-k
invariant-loop-k l = IsMapped ℕ 0 (λ k c. cond (has_flag l.waiting k) (get_or l.places k 0) c) l.fn.list l.list l.k

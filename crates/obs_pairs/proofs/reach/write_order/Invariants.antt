use Rattle.std.proofs.Common.{ℕ, length}
use Rattle.obs_pairs.specs.inner.Split.{number_at}
use Rattle.obs_pairs.proofs.Mapped.{IsMapped}
use Rattle.obs_pairs.proofs.reach.write_order.Given as goal

abbrev pub invariant-loop-k : goal.invariant-loop-k
invariant-loop-k l = IsMapped ℕ 0 (λ k c. number_at l.falls (length l.fn.order) k) l.fn.order l.order l.k

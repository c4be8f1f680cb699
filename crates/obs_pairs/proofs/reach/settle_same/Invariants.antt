use Rattle.std.proofs.Common.{Bool, false, not, ◌&&◌, length, get_or}
use Rattle.obs_pairs.specs.inner.Split.{is_same}
use Rattle.obs_pairs.proofs.Mapped.{IsMapped}
use Rattle.obs_pairs.proofs.reach.settle_same.Given as goal

abbrev pub invariant-loop-k : goal.invariant-loop-k
invariant-loop-k l = IsMapped Bool false (λ k b. b && not (is_same (length l.list) (get_or l.list k 0) (get_or l.places k 0))) l.fn.waiting l.waiting l.k

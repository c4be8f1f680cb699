use Rattle.obs_pairs.proofs.Sharing.{IsSharing}
use Rattle.obs_pairs.proofs.shared.mark_shared.Given as goal

abbrev pub invariant-loop-k : goal.invariant-loop-k
invariant-loop-k l = IsSharing l.list l.fn.shared l.shared l.k

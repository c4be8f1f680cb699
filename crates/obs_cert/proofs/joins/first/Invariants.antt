use Rattle.obs_cert.proofs.JoinLemmas.{IsShorter}
use Rattle.obs_cert.proofs.joins.first.Given as goal

abbrev pub invariant-loop-ups : goal.invariant-loop-ups
invariant-loop-ups l = IsShorter l.fn.ups l.ups l.fn.v l.v

abbrev pub decreases-loop-ups : goal.decreases-loop-ups
decreases-loop-ups l = l.v

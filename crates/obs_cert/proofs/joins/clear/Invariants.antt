use Rattle.obs_cert.proofs.JoinLemmas.{IsClearing}
use Rattle.obs_cert.proofs.joins.clear.Given as goal

abbrev pub invariant-loop-v : goal.invariant-loop-v
invariant-loop-v l = IsClearing l.moved l.v-index l.ups

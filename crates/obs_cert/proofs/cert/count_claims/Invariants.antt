use Rattle.obs_cert.proofs.CountLemmas.{Counted}
use Rattle.obs_cert.proofs.cert.count_claims.Given as goal

abbrev pub invariant-loop-line : goal.invariant-loop-line
invariant-loop-line l = Counted l.bytes l.place l.at l.claims l.line-iterator

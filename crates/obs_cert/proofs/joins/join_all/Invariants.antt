use Rattle.std.proofs.Common.{drop}
use Rattle.obs_cert.specs.inner.Contractions.{contracted_ends}
use Rattle.obs_cert.proofs.JoinLemmas.{IsJoining}
use Rattle.obs_cert.proofs.joins.join_all.Given as goal

abbrev pub invariant-loop-e : goal.invariant-loop-e
invariant-loop-e l = IsJoining (contracted_ends l.contraction l.g.ends) (drop l.e-index l.positions) l.positions l.fn.ups l.fn.moved l.fn.count l.ups l.moved l.count

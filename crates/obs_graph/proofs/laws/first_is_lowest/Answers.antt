use Rattle.std.proofs.Common.{sym, arith}
use Rattle.obs_graph.specs.Joined.{first_joined}
use Rattle.obs_graph.proofs.IsJoined.{same-from_true, true-from_same}
use Rattle.obs_graph.proofs.First.{first_joined-le, first_joined-first_joined}
use Rattle.obs_graph.proofs.laws.first_is_lowest.Goals as goal

pub returns-clause-joined : goal.returns-clause-joined
returns-clause-joined c = λ es u. true-from_same es u (first_joined es u) (sym (first_joined-first_joined es u))

pub returns-clause-lowest : goal.returns-clause-lowest
returns-clause-lowest c = λ es u v joined. omega (arith, same-from_true es u v joined, first_joined-le es v)

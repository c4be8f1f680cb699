use Rattle.std.proofs.Common.{arith}
use Rattle.obs_graph.proofs.IsJoined.{same-from_true, apart-from_false}
use Rattle.obs_graph.proofs.Glue.{rank-glued_joined, rank-glued_apart}
use Rattle.obs_graph.proofs.laws.rank_of_glued.Goals as goal

pub returns-clause-joined : goal.returns-clause-joined
returns-clause-joined c = λ n s t es ls lt ne joined. omega (arith, rank-glued_joined s t es n ls lt ne (same-from_true es s t joined))

pub returns-clause-apart : goal.returns-clause-apart
returns-clause-apart c = λ n s t es ls lt apart. rank-glued_apart s t es n ls lt (apart-from_false es s t apart)

use Rattle.obs_graph.proofs.Shapes.{is_joined-renamed, rank-injective}
use Rattle.obs_graph.proofs.laws.same_by_new_names.Goals as goal

pub returns-clause-joined : goal.returns-clause-joined
returns-clause-joined c = λ n m h es names range. is_joined-renamed n h es names.apart range

pub returns-clause-rank : goal.returns-clause-rank
returns-clause-rank c = λ n m h es names range. rank-injective n m h es names.apart names.into range

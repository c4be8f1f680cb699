use Rattle.obs_graph.proofs.Chains.{is_joined-true, is_joined-from_Chain}
use Rattle.obs_graph.proofs.laws.joined_by_chain.Goals as goal

pub returns : goal.returns
returns c = record { chain = λ es u v. (is_joined-true es u v, is_joined-from_Chain es u v) }

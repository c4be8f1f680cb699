use Rattle.obs_graph.specs.Positions.{has_end}
use Rattle.obs_graph.proofs.AtVertex.{at_vertex, has_end-at_vertex, positions_from_rise}
use Rattle.obs_graph.proofs.laws.branches_at_vertex.Goals as goal

pub returns-clause-exactly : goal.returns-clause-exactly
returns-clause-exactly c = λ bs v p. (has_end-at_vertex bs v p, at_vertex bs v p)

pub returns-clause-rising : goal.returns-clause-rising
returns-clause-rising c = λ bs v. positions_from_rise (has_end v) 0 bs

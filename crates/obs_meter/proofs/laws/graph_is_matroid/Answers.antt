use Rattle.obs_meter.proofs.Instance.{IsMatroid-graph}
use Rattle.obs_meter.proofs.Assigned.{forest_at-from_independent, independent-from_forest_at}
use Rattle.obs_meter.proofs.laws.graph_is_matroid.Goals as goal

pub returns-clause-matroid : goal.returns-clause-matroid
returns-clause-matroid c = IsMatroid-graph

pub returns-clause-forest : goal.returns-clause-forest
returns-clause-forest c = λ n ends L. (forest_at-from_independent n ends L, independent-from_forest_at n ends L)

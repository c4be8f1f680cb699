use Rattle.std.proofs.Common.{◌++◌, ap}
use Rattle.obs_graph.specs.Joined.{count_below}
use Rattle.obs_switch.specs.Buses.{is_first_node}
use Rattle.obs_switch.proofs.FirstNodes.{same_first-from_same_bus}
use Rattle.obs_switch.proofs.OneMore.{bus_under-node, buses_of-one_more, merges-one_more}
use Rattle.obs_switch.proofs.laws.one_link_more.Goals as goal

pub returns-clause-same : goal.returns-clause-same
returns-clause-same c = λ nodes xs l ys from to same. buses_of-one_more nodes xs l ys from to (same_first-from_same_bus (xs ++ ys) l.from l.to same)

pub returns-clause-merged : goal.returns-clause-merged
returns-clause-merged c = λ nodes xs l ys from to apart.
    merges-one_more nodes xs l ys from to (λ same. apart (ap (count_below (is_first_node (xs ++ ys))) same))

pub returns-clause-named : goal.returns-clause-named
returns-clause-named c = λ nodes xs l ys u from to low. bus_under-node nodes xs l ys from to u low

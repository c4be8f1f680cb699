use Rattle.std.proofs.Common.{zero-add, sym, ap, ◌∙◌}
use Rattle.std.proofs.lemmas.List.FromFn.{map-range_with_len_more}
use Rattle.obs_case.specs.Adds.{with_node}
use Rattle.obs_case.specs.inner.Tables.{no_rows}
use Rattle.obs_trial.specs.Trial.{node_at}
use Rattle.obs_trial.proofs.grid.add_nodes.Goals as goal

pub loop-at-preserved : goal.loop-at-preserved
loop-at-preserved c =
    c.in_ok-add_node.ensures.added
    ∙ ap (λ t. with_node t (node_at c.loop-at.at)) c.loop-at.invariant
    ∙ ap (λ nodes. record no_rows { nodes = nodes }) (sym (map-range_with_len_more node_at 0 c.loop-at.at c.loop-at.at (zero-add c.loop-at.at)))

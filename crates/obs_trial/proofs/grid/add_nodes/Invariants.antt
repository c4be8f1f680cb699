use Rattle.std.proofs.Common.{◌≡◌}
use Rattle.obs_case.specs.inner.Tables.{no_rows}
use Rattle.obs_trial.specs.Trial.{nodes_of}
use Rattle.obs_trial.proofs.grid.add_nodes.Given as goal

abbrev pub invariant-loop-at : goal.invariant-loop-at
invariant-loop-at l = l.case ≡ record no_rows { nodes = nodes_of l.at }

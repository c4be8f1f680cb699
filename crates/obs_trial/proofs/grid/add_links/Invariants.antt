use Rattle.obs_trial.specs.inner.Named.{IsSoFar}
use Rattle.obs_trial.specs.Trial.{ends_of_first}
use Rattle.obs_trial.proofs.grid.add_links.Given as goal

abbrev pub invariant-loop-at : goal.invariant-loop-at
invariant-loop-at l = IsSoFar l.n l.seed (ends_of_first l.n l.at) l.case l.state

use Rattle.obs_network.specs.Switched.{case_bus_count}
use Rattle.obs_engine.specs.Trials.{is_first_of_island}
use Rattle.obs_engine.proofs.Turned.{AreCounted}
use Rattle.obs_engine.proofs.trial.count_islands.Given as goal

abbrev pub invariant-loop-bus : goal.invariant-loop-bus
invariant-loop-bus l = AreCounted (is_first_of_island l.fn.session.tables) (case_bus_count l.fn.session.tables) l.bus l.islands

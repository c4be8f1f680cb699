use Rattle.std.proofs.Common.{◌≡◌, ◌+◌, length}
use Rattle.obs_engine.specs.Trials.{is_dip}
use Rattle.obs_engine.specs.inner.Turns.{AreTurns}
use Rattle.obs_engine.proofs.Turned.{AreTurned}
use Rattle.obs_engine.proofs.trial.turn_meters.Given as goal

abbrev pub invariant-loop-at : goal.invariant-loop-at
invariant-loop-at g l = record {
  tables : l.session.tables ≡ l.fn.session.tables;
  turns : AreTurns l.at l.fn.session l.session l.turns.searches;
  turned : AreTurned (is_dip l.fn.session.tables) (length l.fn.session.tables.meters) l.at l.turns.dips l.turns.searches;
  ticks : l.steps ≡ l.fn.steps + l.turns.searches;
}

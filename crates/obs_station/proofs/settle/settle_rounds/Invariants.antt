use Rattle.obs_station.specs.inner.Going.{HasSettled}
use Rattle.obs_station.proofs.settle.settle_rounds.Given as goal

abbrev pub invariant-loop-round : goal.invariant-loop-round
invariant-loop-round g l = HasSettled l.over l.fn.a l.a l.fn.room l.room l.fn.rounds l.rounds l.fn.steps l.steps l.fn.given l.given

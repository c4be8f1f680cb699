use Rattle.obs_islands.specs.inner.Rounds.{AreLowest, is_crossing}
use Rattle.obs_islands.proofs.pieces.mark_crossed.Given as goal

abbrev pub invariant-loop-e : goal.invariant-loop-e
invariant-loop-e l = AreLowest l.g.ends (is_crossing l.g.ends l.firsts) l.e l.lowest

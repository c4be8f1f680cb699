use Rattle.obs_exchange.proofs.Visiting.{IsTouching}
use Rattle.obs_exchange.proofs.visit.walk_touched.Given as goal

abbrev pub invariant-loop-e : goal.invariant-loop-e
invariant-loop-e l = IsTouching l.over l.fn.trail l.trail l.m l.tops l.touched l.e-index

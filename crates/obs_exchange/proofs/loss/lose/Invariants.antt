use Rattle.obs_exchange.proofs.Losing.{AreLost}
use Rattle.obs_exchange.proofs.loss.lose.Given as goal

abbrev pub invariant-loop-m : goal.invariant-loop-m
invariant-loop-m l = AreLost l.g l.list l.fn.left l.left l.fn.a l.a l.m-index

use Rattle.obs_exchange.proofs.Losing.{AreRegained}
use Rattle.obs_exchange.proofs.loss.regain.Given as goal

abbrev pub invariant-loop-m : goal.invariant-loop-m
invariant-loop-m l = AreRegained l.ms.touches l.list l.fn.left l.left l.m-index

use Rattle.obs_exchange.proofs.back.Back.reach_from.Given as goal

abbrev pub invariant-loop-e : goal.invariant-loop-e
invariant-loop-e l = Unit {0}

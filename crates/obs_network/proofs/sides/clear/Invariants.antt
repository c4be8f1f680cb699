use Rattle.obs_network.proofs.FoundSides.{IsClearing}
use Rattle.obs_network.proofs.sides.clear.Given as goal

abbrev pub invariant-loop-v : goal.invariant-loop-v
invariant-loop-v l = IsClearing l.fn.labels l.reached l.labels l.v-index

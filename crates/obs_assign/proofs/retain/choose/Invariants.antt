use Rattle.obs_assign.proofs.Choosing.{IsChoosing}
use Rattle.obs_assign.proofs.retain.choose.Given as goal

abbrev pub invariant-loop-up : goal.invariant-loop-up
invariant-loop-up l = IsChoosing l.ups l.owners l.up-index l.slots

use Rattle.obs_assign.proofs.Sparing.{IsLooking}
use Rattle.obs_assign.proofs.spare.spare_of.Given as goal

abbrev pub invariant-loop-p : goal.invariant-loop-p
invariant-loop-p l = IsLooking l.path l.owners l.frozen l.m l.p-index l.spare

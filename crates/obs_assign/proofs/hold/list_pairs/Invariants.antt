use Rattle.obs_assign.proofs.Listing.{IsListing}
use Rattle.obs_assign.proofs.hold.list_pairs.Given as goal

abbrev pub invariant-loop-m : goal.invariant-loop-m
invariant-loop-m l = IsListing l.slots l.owners l.list l.count l.m

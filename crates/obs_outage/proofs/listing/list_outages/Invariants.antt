use Rattle.std.proofs.Common.{length}
use Rattle.obs_outage.proofs.Entries.{IsListing}
use Rattle.obs_outage.proofs.listing.list_outages.Given as goal

abbrev pub invariant-loop-e : goal.invariant-loop-e
invariant-loop-e g l = IsListing l.fn.case (length l.fn.entries) l.case l.basis l.entries l.count l.e

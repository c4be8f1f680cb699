use Rattle.std.proofs.Common.{◌≡◌, length}
use Rattle.obs_cert.specs.inner.Walked.{lines_in, parts_in}
use Rattle.obs_cert.proofs.walk.next_claim.Given as goal

abbrev pub invariant-loop-line : goal.invariant-loop-line
invariant-loop-line l = (parts_in l.rest).claims ≡ (parts_in l.bytes).claims

abbrev pub decreases-loop-line : goal.decreases-loop-line
decreases-loop-line l = length (lines_in l.rest)

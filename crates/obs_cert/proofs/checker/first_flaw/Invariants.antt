use Rattle.std.proofs.Common.{◌≡◌, ◌+◌, suc, length}
use Rattle.obs_cert.specs.Flaws.{first_flaw}
use Rattle.obs_cert.specs.inner.Ready.{IsReadyFor}
use Rattle.obs_cert.specs.inner.Walked.{parts_in}
use Rattle.obs_cert.proofs.checker.first_flaw.Given as goal

abbrev pub invariant-loop-claim : goal.invariant-loop-claim
invariant-loop-claim l =
    (first_flaw l.present 1 l.cert ≡ first_flaw l.present (l.at + 1) (parts_in l.rest).claims)
    × (l.at + length (parts_in l.rest).claims ≡ length l.cert) × IsReadyFor l.present (suc l.at) l.work

abbrev pub decreases-loop-claim : goal.decreases-loop-claim
decreases-loop-claim l = length (parts_in l.rest).claims

use Rattle.std.proofs.Common.{length}
use Rattle.obs_cert.specs.inner.Links.{link_at}
use Rattle.obs_cert.proofs.KeyLemmas.{AreWritten}
use Rattle.obs_cert.proofs.links.write_links.Given as goal

abbrev pub invariant-loop-e : goal.invariant-loop-e
invariant-loop-e l = AreWritten (link_at l.present) (length l.present.branches) l.e l.links

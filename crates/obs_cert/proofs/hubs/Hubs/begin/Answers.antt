use Rattle.std.proofs.Common.{subst, inl, inr}
use Rattle.obs_matroid.specs.Lists.{In}
use Rattle.obs_cert.specs.inner.Hubs.{Hubs}
use Rattle.obs_cert.proofs.hubs.Hubs.begin.Goals as goal

pub returns-in-Star-clause-contracted : goal.returns-in-Star-clause-contracted
returns-in-Star-clause-contracted c = λ u i. elim (c.add.ensures.added u i) [
  | inl old ↦ absurd (subst (λ (h : Hubs). In u h.list) c.clear.ensures.empty old)
  | inr e ↦ rw c.in-Star.is e
]

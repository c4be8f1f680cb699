-- Partners as a relation.
use Rattle.std.specs.Prelude.{ℕ, ◌<◌, List}
use Rattle.obs_matroid.specs.Lists.{without}
use Rattle.obs_matroid.specs.Matroid.{Matroid}
use Rattle.obs_matroid.specs.inner.Assignments.{IsRho}
use Rattle.obs_matroid.specs.inner.Critical.{IsCritical}

-- m and k are partners in M: neither is critical there, and without both the greatest length falls
-- (they lie in series in the matroid on the items, restricted to M; that they are different items of M follows)
pub record ArePartners (g : Matroid) (touch : ℕ → List ℕ) (M : List ℕ) (m k : ℕ) : Type 0 where
  pub one_noncritical : IsCritical g touch M m → ⊥
  pub other_noncritical : IsCritical g touch M k → ⊥
  pub falls : (r s : ℕ) → IsRho g touch M r → IsRho g touch (without k (without m M)) s → s < r

-- Critical items.
use Rattle.std.specs.Prelude.{ℕ, ◌<◌, List}
use Rattle.obs_matroid.specs.Lists.{without}
use Rattle.obs_matroid.specs.Matroid.{Matroid}
use Rattle.obs_matroid.specs.inner.Assignments.{IsRho}

-- m is critical in M: the greatest length of an assignment falls when m is taken out of M
-- (m is a coloop of the matroid on the items, restricted to M, whose independent sets are those to which one assignment can give a branch
-- each; for different items both numbers exist, so this is not vacuous)
abbrev pub IsCritical : Matroid → (ℕ → List ℕ) → List ℕ → ℕ → Type 0
IsCritical g touch M m = (r s : ℕ) → IsRho g touch M r → IsRho g touch (without m M) s → s < r

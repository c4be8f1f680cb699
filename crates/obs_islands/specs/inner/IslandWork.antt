-- What is kept of islands that were found.
use Rattle.std.specs.Prelude.{ℕ, List}
use Rattle.obs_meter.specs.inner.Sizes.{Sizes}

-- of each vertex the first vertex of the island in which it was found last, and the sizes that the work value was made for
pub record IslandWork : Type 0 where
  pub firsts : List ℕ
  pub sizes : Sizes

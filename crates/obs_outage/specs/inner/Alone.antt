-- Longest pairs of which one meter lost its own.
use Rattle.std.specs.Prelude.{◌≡◌, ℕ, None, Some, slice_set}
use Rattle.obs_assign.specs.Assignment.{Assignment}
use Rattle.obs_assign.specs.inner.Assignment.{IsWhole, branch_at}
use Rattle.obs_exchange.specs.inner.Laws.{IsThawed}
use Rattle.obs_network.specs.Network.{Network}
use Rattle.obs_kept.specs.inner.Kept.{AreLongestOver}

-- the pairs b are the longest pairs a but for that of the meter m, which had the branch e
pub record HasLost (n : Network) (a : Assignment) (m e : ℕ) (b : Assignment) : Type 0 where
  pub longest : AreLongestOver n a
  pub had : branch_at a m ≡ Some e
  pub slots : b.slots ≡ slice_set a.slots m None
  pub whole : IsWhole b
  pub thawed : IsThawed b

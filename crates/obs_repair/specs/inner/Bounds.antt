-- Flags of the live meters that are not critical.
use Rattle.std.specs.Prelude.{◌≡◌, false, slice_index_or, ℕ, Bool, not, List, length}
use Rattle.obs_case.specs.Tables.{Tables}
use Rattle.obs_matroid.specs.Lists.{In}
use Rattle.obs_network.specs.Network.{case_meters}
use Rattle.obs_network.specs.Observable.{case_live_meters}
use Rattle.obs_repair.specs.Bounds.{is_critical_meter}

-- the flags mark, of the live meters, those that aren't critical
pub record AreMarks (t : Tables) (flags : List Bool) : Type 0 where
  pub one_each : length flags ≡ length (case_meters t)
  pub mark : (m : ℕ) → In m (case_live_meters t) → slice_index_or flags m false ≡ not (is_critical_meter t m)

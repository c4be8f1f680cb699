-- The live meters of all stations but one.
use Rattle.std.proofs.Common.{ℕ, not}
use Rattle.obs_case.specs.Tables.{IsValid, Tables}
use Rattle.obs_matroid.proofs.Lists.{IsDistinct-filter}
use Rattle.obs_meter.specs.Assignments.{IsRhoAt}
use Rattle.obs_meter.proofs.Assigned.{live_items-distinct, rho_at-is}
use Rattle.obs_network.specs.Network.{case_branches, case_meters, case_vertex_count}
use Rattle.obs_network.specs.Observable.{case_live_meters}
use Rattle.obs_network.proofs.OfCase.{case_branches-are}
use Rattle.obs_station.specs.Stations.{is_at, loss_of, other_meters}

-- the rank in a loss is the greatest length of an assignment of them
pub loss_rank : (t : Tables) → IsValid t → (c : ℕ) → IsRhoAt (case_branches t) (case_meters t) (other_meters t c) (loss_of t c).rank
loss_rank t v c =
    rho_at-is (case_vertex_count t) (case_branches t) (case_meters t) (other_meters t c) (case_branches-are t v)
    (IsDistinct-filter (λ m. not (is_at t c m)) (case_live_meters t) (live_items-distinct (case_branches t) (case_meters t)))

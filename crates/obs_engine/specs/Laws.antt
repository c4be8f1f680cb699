-- The laws that need a name.
use Rattle.std.specs.Prelude.{◌≡◌, ◌≢◌, ◌<◌, ◌↔◌, ℕ, List, length, slice_index}
use Rattle.obs_case.specs.Tables.{IsValid, Tables}
use Rattle.obs_matroid.specs.Assignments.{Pair}
use Rattle.obs_matroid.specs.Lists.{In, without}
use Rattle.obs_meter.specs.Assignments.{IsAssignmentAt}
use Rattle.obs_exchange.specs.Critical.{IsCriticalAt}
use Rattle.obs_network.specs.Network.{case_branches, case_meters}
use Rattle.obs_network.specs.Observable.{IsObservableCase, case_live_meters, case_rank, item_component, rank_of_meters}
use Rattle.obs_network.specs.Network.{case_needed}
use Rattle.obs_repair.specs.Bounds.{bound_meters}
use Rattle.obs_network.specs.Parted.{outage_case}
use Rattle.obs_outage.specs.Outages.{outage_rows}
use Rattle.obs_station.specs.Stations.{loss_stations, other_meters}
use Rattle.obs_engine.specs.PairReply.{case_classes}

-- the bound of a component lists exactly those live meters of the component whose loss doesn't lower the rank of the case
abbrev pub ListsNonCritical : Type 0
ListsNonCritical =
    (t : Tables) → IsValid t → (c m : ℕ) →
    In m (bound_meters t c)
    ↔ (In m (case_live_meters t) × (item_component t (case_meters t) m ≡ c) × (IsCriticalAt (case_branches t) (case_meters t) (case_live_meters t) m → ⊥))

-- the case bears each outage: it is observable, and each of its outage cases is
abbrev pub BearsOutages : Tables → Type 0
BearsOutages t = IsObservableCase t × ((e : ℕ) → In e (outage_rows t) → IsObservableCase (outage_case t e))

-- the meters of all stations but one have an assignment with as many pairs as the case needs
abbrev pub IsObservableWithout : Tables → ℕ → Type 0
IsObservableWithout t c = (A : List Pair) × IsAssignmentAt (case_branches t) (case_meters t) (other_meters t c) A × (length A ≡ case_needed t)

-- the case bears each loss of a station's meters
abbrev pub BearsLosses : Tables → Type 0
BearsLosses t = IsObservableCase t × ((c : ℕ) → In c (loss_stations t) → IsObservableWithout t c)

-- two different live meters that aren't critical have one printed class exactly where the rank falls without both
abbrev pub PairsFailTogether : Type 0
PairsFailTogether =
    (t : Tables) → IsValid t → (m k : ℕ) → m ≢ k → In m (case_live_meters t) → In k (case_live_meters t)
    → (IsCriticalAt (case_branches t) (case_meters t) (case_live_meters t) m → ⊥) → (IsCriticalAt (case_branches t) (case_meters t) (case_live_meters t) k → ⊥)
    → (slice_index (case_classes t) m ≡ slice_index (case_classes t) k) ↔ (rank_of_meters t (without k (without m (case_live_meters t))) < case_rank t)

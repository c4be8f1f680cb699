-- A row whose outage parts its ends or leaves them joined, and the two sides that it leaves. `rows` has the ends of the rows.
use Rattle.std.specs.Prelude.{◌≡◌, ◌↔◌, ◌⊎◌, ◌<◌, ℕ, false, Option, Some, None, List, length, slice_index, slice_index_or, slice_set}
use Rattle.obs_graph.specs.declared.Ends.{Ends}
use Rattle.obs_graph.specs.Joined.{Chain, Leads}
use Rattle.obs_graph.specs.Positions.{present}
use Rattle.obs_matroid.specs.Lists.{In, IsDistinct}
use Rattle.obs_case.specs.Tables.{Tables}
use Rattle.obs_network.specs.Switched.{case_buses}
use Rattle.obs_network.specs.inner.Components.{source_nodes}
use Rattle.obs_network.specs.inner.Located.{component_of_branch}
use Rattle.obs_network.specs.Network.{case_components, case_live, case_rows, network_of}
use Rattle.obs_network.specs.Observable.{is_absolute_component}
use Rattle.obs_network.specs.Parted.{outage_case}

-- the ends of a present row are joined by the other rows
abbrev pub AreJoinedWithout : List (Option Ends) → ℕ → Type 0
AreJoinedWithout rows e = (x : Ends) → slice_index_or rows e None ≡ Some x → Chain (present (slice_set rows e None)) x.a x.b

-- a list has the vertices that the other rows join with this end of a row, each once, and the row's other end is none of
-- them
pub record IsSideOf (rows : List (Option Ends)) (e end : ℕ) (side : List ℕ) : Type 0 where
  pub joined : (v : ℕ) → In v side ↔ Chain (present (slice_set rows e None)) end v
  pub different : IsDistinct side
  pub apart : (x : Ends) (v : ℕ) → slice_index_or rows e None ≡ Some x → Leads x end v → In v side → ⊥

-- a list is the side of one of a row's ends
abbrev pub IsSide : List (Option Ends) → ℕ → List ℕ → Type 0
IsSide rows e side = (x : Ends) → slice_index_or rows e None ≡ Some x → IsSideOf rows e x.a side ⊎ IsSideOf rows e x.b side

-- the ends of a live branch lie in one component without it
abbrev pub StaysJoined : Tables → ℕ → Type 0
StaysJoined t at = (x : Ends) → slice_index_or (case_live t) at None ≡ Some x →
    slice_index (case_components (outage_case t at)) x.a ≡ slice_index (case_components (outage_case t at)) x.b

-- one of the buses of a side is that of a source
abbrev pub HasSource : Tables → List ℕ → Type 0
HasSource t side = (u : ℕ) × In u (source_nodes t.nodes) × In (slice_index (case_buses t) u) side

-- a source's bus is of a component, and not in a side of it: the other side has a source
abbrev pub HasSourceBeside : Tables → ℕ → List ℕ → Type 0
HasSourceBeside t c side =
    (u : ℕ) × In u (source_nodes t.nodes) × (slice_index (case_components t) (slice_index (case_buses t) u) ≡ c) × (In (slice_index (case_buses t) u) side → ⊥)

-- a row of a component that isn't absolute, and one of the two sides that its outage leaves
pub record IsParted (t : Tables) (e c : ℕ) (side : List ℕ) : Type 0 where
  pub row : e < length t.branches
  pub component : component_of_branch (network_of t) e ≡ Some c
  pub loose : is_absolute_component t c ≡ false
  pub sides : IsSide (case_rows t) e side

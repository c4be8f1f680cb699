-- Observability: which components of a case can have all pairs that they need.
use Rattle.std.specs.Prelude.{◌≡◌, ℕ, ◌<◌, ◌==◌, ◌&&◌, ◌||◌, Bool, true, false, nat_lt, List, length, filter, slice_index_or}
use Rattle.obs_case.specs.Tables.{Tables}
use Rattle.obs_matroid.specs.Assignments.{Pair}
use Rattle.obs_meter.specs.declared.Touch.{Touch}
use Rattle.obs_meter.specs.declared.Touch.TheVariants.{Nothing}
use Rattle.obs_meter.specs.Assignments.{IsAssignmentAt, IsRhoAt, rho_at}
use Rattle.obs_meter.specs.Spanned.{ends_at, common_vertex}
use Rattle.obs_meter.specs.Touches.{live_items}
use Rattle.obs_network.specs.Switched.{case_bus_count}
use Rattle.obs_network.specs.Network.{case_absolute, case_branches, case_component_count, case_energised, case_meters, case_need, case_vertex_component, case_vertex_count}

-- the component in which a branch lies
abbrev pub branch_component : Tables → ℕ → ℕ
branch_component t e = case_vertex_component t (ends_at (case_branches t) e).0

-- the component in which all branches lie that an item touches
abbrev pub item_component : Tables → List Touch → ℕ → ℕ
item_component t touches m = case_vertex_component t (common_vertex (case_branches t) (slice_index_or touches m Nothing))

-- the meters of a case that touch a branch
abbrev pub case_live_meters : Tables → List ℕ
case_live_meters t = live_items (case_branches t) (case_meters t)

-- whether a component is energised
abbrev pub is_energised_component : Tables → ℕ → Bool
is_energised_component t c = slice_index_or (case_energised t) c false

-- whether a component is absolute
abbrev pub is_absolute_component : Tables → ℕ → Bool
is_absolute_component t c = slice_index_or (case_absolute t) c false

-- whether a vertex is one of a component: one of its buses, or its reference vertex where it is absolute
abbrev pub is_vertex_of : Tables → ℕ → ℕ → Bool
is_vertex_of t c v = (case_vertex_component t v == c) && (nat_lt v (case_bus_count t) || is_absolute_component t c)

-- a component is observable: an assignment of live meters has as many pairs with branches in it as it needs
pub record IsObservable (t : Tables) (c : ℕ) : Type 0 where
  pub pairs : List Pair
  pub assigns : IsAssignmentAt (case_branches t) (case_meters t) (case_live_meters t) pairs
  pub enough : length (filter (λ p. branch_component t p.1 == c) pairs) ≡ case_need t c

-- a case is observable: each of its energised components is
abbrev pub IsObservableCase : Tables → Type 0
IsObservableCase t = (c : ℕ) → c < case_component_count t → is_energised_component t c ≡ true → IsObservable t c

-- the greatest length of an assignment of some meters of a case
abbrev pub rank_of_meters : Tables → List ℕ → ℕ
rank_of_meters t meters = rho_at (case_vertex_count t) (case_branches t) (case_meters t) meters

-- the rank of a case: that of its live meters
unfoldable pub case_rank : Tables → ℕ
case_rank t = rank_of_meters t (case_live_meters t)

-- the rank of a case: the greatest number of pairs of its live meters
abbrev pub IsRankOf : Tables → ℕ → Type 0
IsRankOf t r = IsRhoAt (case_branches t) (case_meters t) (case_live_meters t) r

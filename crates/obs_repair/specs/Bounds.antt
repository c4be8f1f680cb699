-- The critical meters of a case, what each component can have, and the list that shows a shortage.
use Rattle.std.specs.Prelude.{ℕ, ◌==◌, ◌&&◌, Bool, not, List, length, filter, flat_map}
use Rattle.std.specs.List.{range_with_len}
use Rattle.obs_case.specs.Tables.{Tables}
use Rattle.obs_meter.specs.Spanned.{rank_at}
use Rattle.obs_meter.specs.Touches.{touch_at}
use Rattle.obs_exchange.specs.Critical.{critical_at, critical_meters}
use Rattle.obs_network.specs.Network.{case_branches, case_component_count, case_meters, case_need, case_vertex_count}
use Rattle.obs_network.specs.Observable.{case_live_meters, is_energised_component, item_component, rank_of_meters}

-- whether a meter of a case is critical
unfoldable pub is_critical_meter : Tables → ℕ → Bool
is_critical_meter t m = critical_at (case_vertex_count t) (case_branches t) (case_meters t) m

-- the critical meters of a case
unfoldable pub case_critical_meters : Tables → List ℕ
case_critical_meters t = critical_meters (case_vertex_count t) (case_branches t) (case_meters t)

-- whether all that a meter touches lies in a component
abbrev pub is_meter_of : Tables → ℕ → ℕ → Bool
is_meter_of t c m = item_component t (case_meters t) m == c

-- the live meters of a component
unfoldable pub component_meters : Tables → ℕ → List ℕ
component_meters t c = filter (is_meter_of t c) (case_live_meters t)

-- the greatest number of pairs that a component can have
unfoldable pub component_rank : Tables → ℕ → ℕ
component_rank t c = rank_of_meters t (component_meters t c)

-- whether a component is energised and can't have the pairs that it needs
unfoldable pub is_short : Tables → ℕ → Bool
is_short t c = is_energised_component t c && not (component_rank t c == case_need t c)

-- the energised components that can't, in their order
unfoldable pub short_components : Tables → List ℕ
short_components t = filter (is_short t) (range_with_len 0 (case_component_count t))

-- the list that shows it: the live meters of the component that aren't critical
unfoldable pub bound_meters : Tables → ℕ → List ℕ
bound_meters t c = filter (λ m. not (is_critical_meter t m)) (component_meters t c)

-- the rank of the branches that these touch
unfoldable pub bound_rank : Tables → ℕ → ℕ
bound_rank t c = rank_at (case_vertex_count t) (case_branches t) (flat_map (touch_at (case_branches t) (case_meters t)) (bound_meters t c))

-- the number of the component's other live meters
unfoldable pub bound_outside : Tables → ℕ → ℕ
bound_outside t c = length (filter (is_critical_meter t) (component_meters t c))

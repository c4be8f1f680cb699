-- Which items a claim may speak of, as tests on their numbers, and what the case says of them.
use Rattle.std.specs.Prelude.{ℕ, ◌-◌, ◌==◌, ◌||◌, ◌&&◌, Bool, false, nat_lt, Option, None, Some, List, length, filter, slice_index, slice_index_or}
use Rattle.obs_case.specs.Tables.{Tables, node_names, place_of, prices_of}
use Rattle.obs_meter.specs.Touches.{every_item, is_live, touch_at}
use Rattle.obs_network.specs.Located.{component_of_item}
use Rattle.obs_network.specs.Network.{case_branches, case_first_buses, case_need, case_offered, is_meter, network_of, node_component}
use Rattle.obs_network.specs.Observable.{is_energised_component}
use Rattle.obs_network.specs.Switched.{case_buses, case_first_node}

-- what an item that is a candidate costs
abbrev pub price_at : Tables → ℕ → ℕ
price_at t m = slice_index_or (prices_of t.candidates) (m - length t.meters) 0

-- the branches that an item touches
abbrev pub item_touches : Tables → ℕ → List ℕ
item_touches t m = touch_at (case_branches t) (case_offered t) m

-- whether an item is live: it touches a branch
abbrev pub is_live_item : Tables → ℕ → Bool
is_live_item t m = is_live (case_branches t) (case_offered t) m

-- whether this is the component
abbrev pub is_this : Option ℕ → ℕ → Bool
is_this None c = false
is_this (Some d) c = d == c

-- whether an item is a live meter of a component: what it touches lies there
abbrev pub is_meter_in : Tables → ℕ → ℕ → Bool
is_meter_in t c m = is_meter t m && is_this (component_of_item (network_of t) m) c

-- whether an item is a live meter, or a live candidate whose price is below a number
abbrev pub is_below : Tables → ℕ → ℕ → Bool
is_below t to m = is_live_item t m && (is_meter t m || nat_lt (price_at t m) to)

-- whether an item is a live meter, or a live candidate that passes a test
abbrev pub is_of_plan : Tables → (ℕ → Bool) → ℕ → Bool
is_of_plan t chosen m = is_live_item t m && (is_meter t m || chosen m)

-- the items that pass a test
abbrev pub scope_of : Tables → (ℕ → Bool) → List ℕ
scope_of t test = filter test (every_item (case_offered t))

-- whether a node names an energised component: it is the first node of the first bus of one
abbrev pub names_at : Tables → ℕ → Bool
names_at t u =
    (case_first_node t u == u)
    && ((slice_index (case_first_buses t) (node_component t u) == slice_index (case_buses t) u) && is_energised_component t (node_component t u))

-- whether a name is that of an energised component; the component that it stands for, and what that needs
abbrev pub names_component : Tables → List ℕ → Bool
names_component t name = names_at t (place_of (node_names t) name)

abbrev pub named_component : Tables → List ℕ → ℕ
named_component t name = node_component t (place_of (node_names t) name)

abbrev pub named_need : Tables → List ℕ → ℕ
named_need t name = case_need t (named_component t name)

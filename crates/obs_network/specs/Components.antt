-- Components: what live branches join. `live` has the ends of the live branches, and buses are numbered from 0.
use Rattle.std.specs.Prelude.{ℕ, ◌-◌, ◌==◌, Bool, false, nat_lt, if◌then◌else◌, Option, Some, None, List, length, map, filter, count_by, slice_index, slice_index_or}
use Rattle.std.specs.List.{list_any, range_with_len}
use Rattle.obs_graph.specs.declared.Ends.{Ends}
use Rattle.obs_graph.specs.Joined.{count_below, first_joined}
use Rattle.obs_graph.specs.Positions.{positions_from, sum_below}
use Rattle.obs_case.specs.declared.rows.Node.{Node}

-- the first bus of a bus's component, which names it
abbrev pub first_bus : List Ends → ℕ → ℕ
first_bus live b = first_joined live b

-- whether a bus is the first of its component
abbrev pub is_first_bus : List Ends → ℕ → Bool
is_first_bus live b = first_bus live b == b

-- the number of a bus's component: how many first buses stand before the one that names it
abbrev pub component_of : List Ends → ℕ → ℕ
component_of live b = count_below (is_first_bus live) (first_bus live b)

-- the component of each of so many buses
abbrev pub components_of : ℕ → List Ends → List ℕ
components_of count live = map (component_of live) (range_with_len 0 count)

-- how many components so many buses have
abbrev pub component_count : ℕ → List Ends → ℕ
component_count count live = count_below (is_first_bus live) count

-- the first bus of each component
abbrev pub first_buses_of : ℕ → List Ends → List ℕ
first_buses_of count live = filter (is_first_bus live) (range_with_len 0 count)

-- how many buses each of so many components has, where the component of each bus is given
abbrev pub sizes_of : ℕ → List ℕ → List ℕ
sizes_of count components = map (λ c. count_by (λ x. x == c) components) (range_with_len 0 count)

-- the nodes that a flag marks
abbrev pub marked_nodes : (Node → Bool) → List Node → List ℕ
marked_nodes flag nodes = positions_from flag 0 nodes

-- whether the flag marks one of a component's nodes
abbrev pub is_marked : (Node → Bool) → List ℕ → List ℕ → List Node → ℕ → Bool
is_marked flag components buses nodes c = list_any (λ u. slice_index components (slice_index buses u) == c) (marked_nodes flag nodes)

-- which of so many components are marked so
abbrev pub marked_of : (Node → Bool) → ℕ → List ℕ → List ℕ → List Node → List Bool
marked_of flag count components buses nodes = map (is_marked flag components buses nodes) (range_with_len 0 count)

-- whether a node is fed from outside
abbrev pub is_source : Node → Bool
is_source row = row.source

-- whether a node's component is to be estimated against the common time reference
abbrev pub is_absolute_node : Node → Bool
is_absolute_node row = row.absolute

-- which of so many components are energised
abbrev pub energised_of : ℕ → List ℕ → List ℕ → List Node → List Bool
energised_of count components buses nodes = marked_of is_source count components buses nodes

-- which of so many components are absolute: one of their nodes is marked absolute
abbrev pub absolute_of : ℕ → List ℕ → List ℕ → List Node → List Bool
absolute_of count components buses nodes = marked_of is_absolute_node count components buses nodes

-- the pairs that a component needs: as many as it has buses where it is absolute, else one fewer
abbrev pub need_of : List ℕ → List Bool → ℕ → ℕ
need_of sizes absolute c = if slice_index_or absolute c false then slice_index sizes c else slice_index sizes c - 1

-- the sum of what the energised ones of the first so many components need
abbrev pub needed_of : List ℕ → List Bool → List Bool → ℕ → ℕ
needed_of sizes energised absolute count =
    sum_below (λ c. if slice_index_or energised c false then need_of sizes absolute c else 0) count

-- the component of a vertex, where the component of each bus is given: the vertices are the buses, and behind them one
-- reference vertex for each component
abbrev pub vertex_component : List ℕ → ℕ → ℕ
vertex_component components v = if nat_lt v (length components) then slice_index components v else v - length components

-- a live branch, where it is of an energised component
abbrev pub if_energised : List ℕ → List Bool → Option Ends → Option Ends
if_energised components energised None = None
if_energised components energised (Some e) =
    if slice_index_or energised (slice_index components e.a) false then Some e else None

-- the live branches of energised components by position
abbrev pub energised_branches : List ℕ → List Bool → List (Option Ends) → List (Option Ends)
energised_branches components energised live = map (if_energised components energised) live

-- The lines of nodes with their buses.
use Rattle.std.specs.Prelude.{ℕ, List, [], ◌∷◌, length, codes, slice_index_or}
use Rattle.std.specs.List.{flat_map, range_with_len}
use Rattle.obs_case.specs.Tables.{Tables, node_names}
use Rattle.obs_network.specs.Switched.{case_first_node}
use Rattle.obs_report.specs.Lines.{line_of}

-- the name of the node at a position
abbrev pub node_name : Tables → ℕ → List ℕ
node_name t u = slice_index_or (node_names t) u []

-- a node and its bus, which is named by its first node
abbrev pub node_line : Tables → ℕ → List ℕ
node_line t u = line_of (codes "node" ∷ node_name t u ∷ node_name t (case_first_node t u) ∷ [])

-- a line for each node, in the order of the table
abbrev pub node_lines : Tables → List ℕ
node_lines t = flat_map (node_line t) (range_with_len 0 (length t.nodes))

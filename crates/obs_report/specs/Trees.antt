-- The lines of trees: a component, and the pairs of meters and branches that lie in it.
use Rattle.std.specs.Prelude.{ℕ, ◌==◌, Bool, List, [], ◌∷◌, ◌++◌, codes, filter}
use Rattle.std.specs.List.{flat_map}
use Rattle.obs_case.specs.Tables.{Tables}
use Rattle.obs_matroid.specs.Assignments.{Pair}
use Rattle.obs_network.specs.Observable.{branch_component}
use Rattle.obs_report.specs.Items.{pair_line}
use Rattle.obs_report.specs.Lines.{line_of}
use Rattle.obs_report.specs.Meters.{component_name}

-- the line that begins a tree: the name of a component
abbrev pub tree_line : List ℕ → List ℕ
tree_line name = line_of (codes "tree" ∷ name ∷ [])

-- whether a pair lies in a component: its branch does
abbrev pub lies_in : Tables → ℕ → Pair → Bool
lies_in t c p = branch_component t p.1 == c

-- a line for each of the pairs that lie in a component
abbrev pub pair_lines : Tables → ℕ → List Pair → List ℕ
pair_lines t c pairs = flat_map (pair_line t) (filter (lies_in t c) pairs)

-- the tree of a component: its line, and those of the pairs that lie in it
abbrev pub tree_text : Tables → ℕ → List Pair → List ℕ
tree_text t c pairs = tree_line (component_name t c) ++ pair_lines t c pairs

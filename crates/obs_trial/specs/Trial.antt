-- The case that a number of rows and a seed generate.
use Rattle.std.specs.Prelude.{ℕ, ◌+◌, ◌*◌, ◌/◌, ◌%◌, ◌==◌, true, false, nat_lt, List, [], ◌∷◌, ◌++◌, map, decimal, if◌then◌else◌}
use Rattle.std.specs.List.{enumerate_from, flat_map, range_with_len}
use Rattle.obs_case.specs.Tables.{Tables, usual_rows}
use Rattle.obs_case.specs.declared.rows.Branch.{Branch}
use Rattle.obs_case.specs.declared.rows.Kind.{Kind}
use Rattle.obs_case.specs.declared.rows.Kind.TheVariants.{Flow, Injection}
use Rattle.obs_case.specs.declared.rows.Meter.{Meter}
use Rattle.obs_case.specs.declared.rows.Node.{Node}
use Rattle.obs_trial.specs.Draws.{draw_at}

-- names are a letter, `n`, `b` or `m`, and a number from 0
abbrev pub node_name : ℕ → List ℕ
node_name i = 0x6E ∷ decimal i

abbrev pub branch_name : ℕ → List ℕ
branch_name k = 0x62 ∷ decimal k

abbrev pub meter_name : ℕ → List ℕ
meter_name k = 0x6D ∷ decimal k

-- a node; the first one alone is a source, and none is marked absolute
abbrev pub node_at : ℕ → Node
node_at i = record { name = node_name i; source = i == 0; absolute = false }

-- the nodes, in order
abbrev pub nodes_of : ℕ → List Node
nodes_of count = map node_at (range_with_len 0 count)

-- the nodes stand row by row, n in each: the ends of the branch to the right, where the node isn't the last of its row
abbrev pub to_right : ℕ → ℕ → List (ℕ × ℕ)
to_right n i = if nat_lt (i % n + 1) n then (i, i + 1) ∷ [] else []

-- the ends of the branch downwards, where the node's row isn't the last
abbrev pub to_below : ℕ → ℕ → List (ℕ × ℕ)
to_below n i = if nat_lt (i / n + 1) n then (i, i + n) ∷ [] else []

-- the ends of the branches of one node: first to the right, then downwards
abbrev pub ends_at : ℕ → ℕ → List (ℕ × ℕ)
ends_at n i = to_right n i ++ to_below n i

-- the ends of the branches of the first so many nodes, node by node
abbrev pub ends_of_first : ℕ → ℕ → List (ℕ × ℕ)
ends_of_first n count = flat_map (ends_at n) (range_with_len 0 count)

-- a branch by its number and its ends
abbrev pub branch_at : ℕ × (ℕ × ℕ) → Branch
branch_at b = record { name = branch_name b.0; from = b.1.0; to = b.1.1; inservice = true }

-- what a meter measures by its draw, and where it stands: a flow on the branch, or an injection at the first end or at the second
abbrev pub kind_drawn : ℕ → Kind
kind_drawn draw = if draw % 3 == 0 then Flow else Injection

abbrev pub place_drawn : ℕ → ℕ → ℕ × ℕ → ℕ
place_drawn draw k ends = if draw % 3 == 0 then k else if draw % 3 == 1 then ends.0 else ends.1

-- a meter
abbrev pub meter_row : ℕ → Kind → ℕ → Meter
meter_row k kind at = record { name = meter_name k; kind = kind; at = at; inservice = true }

-- the meter of a branch: each branch has one draw, in order
abbrev pub meter_at : ℕ → ℕ × (ℕ × ℕ) → Meter
meter_at seed b = let draw = draw_at seed b.0 in meter_row b.0 (kind_drawn draw) (place_drawn draw b.0 b.1)

-- the case of these branches, under the usual limit of rows
abbrev pub trial_with : ℕ → ℕ → List (ℕ × ℕ) → Tables
trial_with n seed ends =
    record {
      nodes = nodes_of (n * n);
      switches = [];
      branches = map branch_at (enumerate_from 0 ends);
      meters = map (meter_at seed) (enumerate_from 0 ends);
      candidates = [];
      most = usual_rows;
    }

-- the case of n rows of n nodes and a seed
unfoldable pub trial_of : ℕ → ℕ → Tables
trial_of n seed = trial_with n seed (ends_of_first n (n * n))

-- One row more: the tables that have it, and the row that names stand for.
use Rattle.std.specs.Prelude.{ℕ, Bool, List, [], ◌∷◌, ◌++◌}
use Rattle.obs_case.specs.declared.rows.Branch.{Branch}
use Rattle.obs_case.specs.declared.rows.Candidate.{Candidate}
use Rattle.obs_case.specs.declared.rows.Kind.{Kind}
use Rattle.obs_case.specs.declared.rows.Meter.{Meter}
use Rattle.obs_case.specs.declared.rows.Node.{Node}
use Rattle.obs_case.specs.declared.rows.Switch.{Switch}
use Rattle.obs_case.specs.Tables.{Tables, node_names, place_of, place_names}

-- the tables with one row more at the end of one
abbrev pub with_node : Tables → Node → Tables
with_node t row = record t { nodes = t.nodes ++ row ∷ [] }

abbrev pub with_switch : Tables → Switch → Tables
with_switch t row = record t { switches = t.switches ++ row ∷ [] }

abbrev pub with_branch : Tables → Branch → Tables
with_branch t row = record t { branches = t.branches ++ row ∷ [] }

abbrev pub with_meter : Tables → Meter → Tables
with_meter t row = record t { meters = t.meters ++ row ∷ [] }

abbrev pub with_candidate : Tables → Candidate → Tables
with_candidate t row = record t { candidates = t.candidates ++ row ∷ [] }

-- the rows that names stand for
abbrev pub switch_of : Tables → List ℕ → List ℕ → List ℕ → Bool → Switch
switch_of t name from to closed =
    record { name = name; from = place_of (node_names t) from; to = place_of (node_names t) to; closed = closed }

abbrev pub branch_of : Tables → List ℕ → List ℕ → List ℕ → Bool → Branch
branch_of t name from to inservice =
    record { name = name; from = place_of (node_names t) from; to = place_of (node_names t) to; inservice = inservice }

abbrev pub meter_of : Tables → List ℕ → Kind → List ℕ → Bool → Meter
meter_of t name kind at inservice =
    record { name = name; kind = kind; at = place_of (place_names t kind) at; inservice = inservice }

abbrev pub candidate_of : Tables → List ℕ → Kind → List ℕ → ℕ → Candidate
candidate_of t name kind at price =
    record { name = name; kind = kind; at = place_of (place_names t kind) at; price = price }

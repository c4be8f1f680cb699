-- One row of a table: why it is refused, and the tables that have it.
use Rattle.std.specs.Prelude.{ℕ, ◌==◌, ◌+◌, ◌&&◌, ◌||◌, Bool, false, not, List, [], ◌∷◌, length, codes, Option, None, Some, is_none, unwrap_or, if◌then◌else◌}
use Rattle.obs_text.specs.Names.{is_name}
use Rattle.obs_case.specs.declared.rows.Kind.{Kind}
use Rattle.obs_case.specs.declared.rows.Kind.TheVariants.{Zero}
use Rattle.obs_case.specs.declared.rows.Node.{Node}
use Rattle.obs_case.specs.Adds.{branch_of, candidate_of, meter_of, switch_of, with_branch, with_candidate, with_meter, with_node, with_switch}
use Rattle.obs_case.specs.Tables.{Tables, branch_names, candidate_names, has_name, meter_names, node_names, place_names, switch_names}
use Rattle.obs_case_csv.specs.declared.faults.RowFault.{RowFault}
use Rattle.obs_case_csv.specs.declared.faults.RowFault.TheVariants.{ShortRow, BadName, BadFlag, BadKind, BadPrice, NameTwice, UnknownNode, UnknownPlace, TooMany}
use Rattle.obs_case_csv.specs.declared.faults.Table.{Table}
use Rattle.obs_case_csv.specs.declared.faults.Table.TheVariants.{Nodes, Switches, Branches, Meters, Candidates}
use Rattle.obs_case_csv.specs.Fields.{Record, field_of, flag_of, is_short, kind_of, price_of, read_columns}

-- the names of the rows of one table
abbrev pub names_in : Table → Tables → List (List ℕ)
names_in Nodes t = node_names t
names_in Switches t = switch_names t
names_in Branches t = branch_names t
names_in Meters t = meter_names t
names_in Candidates t = candidate_names t

-- the first of these faults whose condition holds; they are listed by their codes
abbrev pub lowest : List (RowFault × Bool) → Option RowFault
lowest [] = None
lowest (test ∷ tests) = if test.1 then Some test.0 else lowest tests

-- both ends are nodes
abbrev pub has_ends : Tables → List ℕ → List ℕ → Bool
has_ends t from to = has_name (node_names t) from && has_name (node_names t) to

-- what a meter of this kind stands at is there; without a kind nothing is
abbrev pub has_place : Tables → Option Kind → List ℕ → Bool
has_place t None at = false
has_place t (Some kind) at = has_name (place_names t kind) at

-- why a row with these fields is refused, given the rows before it
abbrev pub node_row_fault : Tables → List ℕ → List ℕ → List ℕ → Option RowFault
node_row_fault t node source absolute =
    lowest (
    (BadName, not (is_name node))
    ∷ (BadFlag, is_none (flag_of source) || is_none (flag_of absolute))
    ∷ (NameTwice, has_name (node_names t) node)
    ∷ []
    )

abbrev pub switch_row_fault : Tables → List ℕ → List ℕ → List ℕ → List ℕ → Option RowFault
switch_row_fault t switch from to closed =
    lowest (
    (BadName, not (is_name switch))
    ∷ (BadFlag, is_none (flag_of closed))
    ∷ (NameTwice, has_name (switch_names t) switch)
    ∷ (UnknownNode, not (has_ends t from to))
    ∷ []
    )

abbrev pub branch_row_fault : Tables → List ℕ → List ℕ → List ℕ → List ℕ → Option RowFault
branch_row_fault t branch from to inservice =
    lowest (
    (BadName, not (is_name branch))
    ∷ (BadFlag, is_none (flag_of inservice))
    ∷ (NameTwice, has_name (branch_names t) branch)
    ∷ (UnknownNode, not (has_ends t from to))
    ∷ []
    )

abbrev pub meter_row_fault : Tables → List ℕ → List ℕ → List ℕ → List ℕ → Option RowFault
meter_row_fault t meter kind at inservice =
    lowest (
    (BadName, not (is_name meter))
    ∷ (BadFlag, is_none (flag_of inservice))
    ∷ (BadKind, is_none (kind_of kind))
    ∷ (NameTwice, has_name (meter_names t) meter)
    ∷ (UnknownPlace, not (has_place t (kind_of kind) at))
    ∷ []
    )

abbrev pub candidate_row_fault : Tables → List ℕ → List ℕ → List ℕ → List ℕ → Option RowFault
candidate_row_fault t candidate kind at price =
    lowest (
    (BadName, not (is_name candidate))
    ∷ (BadKind, is_none (kind_of kind))
    ∷ (BadPrice, is_none (price_of price))
    ∷ (NameTwice, has_name (candidate_names t) candidate)
    ∷ (UnknownPlace, not (has_place t (kind_of kind) at))
    ∷ []
    )

-- why a row is refused whose fields stand under these columns
abbrev pub fields_fault : Table → Tables → (List ℕ → List ℕ) → Option RowFault
fields_fault Nodes t field = node_row_fault t (field (codes "node")) (field (codes "source")) (field (codes "absolute"))
fields_fault Switches t field = switch_row_fault t (field (codes "switch")) (field (codes "from")) (field (codes "to")) (field (codes "closed"))
fields_fault Branches t field = branch_row_fault t (field (codes "branch")) (field (codes "from")) (field (codes "to")) (field (codes "inservice"))
fields_fault Meters t field = meter_row_fault t (field (codes "meter")) (field (codes "kind")) (field (codes "at")) (field (codes "inservice"))
fields_fault Candidates t field = candidate_row_fault t (field (codes "candidate")) (field (codes "kind")) (field (codes "at")) (field (codes "price"))

-- the number of a table's next row: rows are numbered from 1, and the header has the number 0
abbrev pub next_row : Table → Tables → ℕ
next_row table t = length (names_in table t) + 1

-- why a record under this header is refused as the next row; the row behind the limit isn't looked at
abbrev pub row_fault : Table → Record → Tables → Record → Option RowFault
row_fault table header t row =
    if length (names_in table t) == t.most then Some TooMany
    else (if is_short (read_columns table) header row then Some ShortRow else fields_fault table t (field_of header row))

-- the readings of a flag, a kind and a price that aren't refused
abbrev pub flag : List ℕ → Bool
flag bytes = unwrap_or (flag_of bytes) false

abbrev pub kind : List ℕ → Kind
kind bytes = unwrap_or (kind_of bytes) Zero

abbrev pub price : List ℕ → ℕ
price bytes = unwrap_or (price_of bytes) 0

-- the node of these fields
abbrev pub node_read : List ℕ → List ℕ → List ℕ → Node
node_read node source absolute = record { name = node; source = flag source; absolute = flag absolute }

-- the tables with the row whose fields stand under these columns
abbrev pub with_fields : Table → Tables → (List ℕ → List ℕ) → Tables
with_fields Nodes t field = with_node t (node_read (field (codes "node")) (field (codes "source")) (field (codes "absolute")))
with_fields Switches t field = with_switch t (switch_of t (field (codes "switch")) (field (codes "from")) (field (codes "to")) (flag (field (codes "closed"))))
with_fields Branches t field = with_branch t (branch_of t (field (codes "branch")) (field (codes "from")) (field (codes "to")) (flag (field (codes "inservice"))))
with_fields Meters t field = with_meter t (meter_of t (field (codes "meter")) (kind (field (codes "kind"))) (field (codes "at")) (flag (field (codes "inservice"))))
with_fields Candidates t field =
    with_candidate t (candidate_of t (field (codes "candidate")) (kind (field (codes "kind"))) (field (codes "at")) (price (field (codes "price"))))

-- the tables with the row that a record under this header is
abbrev pub with_record : Table → Record → Tables → Record → Tables
with_record table header t row = with_fields table t (field_of header row)

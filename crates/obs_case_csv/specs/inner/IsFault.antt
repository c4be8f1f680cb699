-- Which rows of tables have which faults, given the rows before them; the header is row 0.
use Rattle.std.specs.Prelude.{ℕ, ◌≡◌, ◌<◌, ◌≤◌, ◌+◌, ◌⊎◌, ◌||◌, Bool, false, not, IsTrue, List, [], ◌∷◌, ◌++◌, length, codes, Option, None, Some, is_none}
use Rattle.std.specs.List.{list_any}
use Rattle.obs_text.specs.Names.{is_name}
use Rattle.obs_case.specs.Tables.{IsValid, Tables, has_name}
use Rattle.obs_case_csv.specs.declared.faults.RowFault.{RowFault}
use Rattle.obs_case_csv.specs.declared.faults.RowFault.TheVariants.{NoHeader, ColumnMissing, ColumnTwice, ShortRow, BadName, BadFlag, BadKind, BadPrice, NameTwice, UnknownNode, UnknownPlace, TooMany}
use Rattle.obs_case_csv.specs.declared.faults.Table.{Table}
use Rattle.obs_case_csv.specs.declared.faults.Table.TheVariants.{Nodes, Switches, Branches, Meters, Candidates}
use Rattle.obs_case_csv.specs.inner.Columns.{own_column}
use Rattle.obs_case_csv.specs.Faults.{fault_code}
use Rattle.obs_case_csv.specs.Fields.{Record, comes_twice, field_of, flag_of, header_fault, is_short, kind_of, needed_columns, price_of, read_columns}
use Rattle.obs_case_csv.specs.inner.OneTable.{HasRows, IsTableOf}
use Rattle.obs_case_csv.specs.Read.{table_records}
use Rattle.obs_case_csv.specs.Rows.{has_ends, has_place, names_in}

-- of a row's fields, by their columns: a flag, the kind or the price is none, an end names no node, or the place nothing of its kind
abbrev pub has_bad_flag : Table → (List ℕ → List ℕ) → Bool
has_bad_flag Nodes field = is_none (flag_of (field (codes "source"))) || is_none (flag_of (field (codes "absolute")))
has_bad_flag Switches field = is_none (flag_of (field (codes "closed")))
has_bad_flag Branches field = is_none (flag_of (field (codes "inservice")))
has_bad_flag Meters field = is_none (flag_of (field (codes "inservice")))
has_bad_flag Candidates field = false

abbrev pub has_bad_kind : Table → (List ℕ → List ℕ) → Bool
has_bad_kind Nodes field = false
has_bad_kind Switches field = false
has_bad_kind Branches field = false
has_bad_kind Meters field = is_none (kind_of (field (codes "kind")))
has_bad_kind Candidates field = is_none (kind_of (field (codes "kind")))

abbrev pub has_bad_price : Table → (List ℕ → List ℕ) → Bool
has_bad_price Nodes field = false
has_bad_price Switches field = false
has_bad_price Branches field = false
has_bad_price Meters field = false
has_bad_price Candidates field = is_none (price_of (field (codes "price")))

abbrev pub has_unknown_node : Table → Tables → (List ℕ → List ℕ) → Bool
has_unknown_node Nodes t field = false
has_unknown_node Switches t field = not (has_ends t (field (codes "from")) (field (codes "to")))
has_unknown_node Branches t field = not (has_ends t (field (codes "from")) (field (codes "to")))
has_unknown_node Meters t field = false
has_unknown_node Candidates t field = false

abbrev pub has_unknown_place : Table → Tables → (List ℕ → List ℕ) → Bool
has_unknown_place Nodes t field = false
has_unknown_place Switches t field = false
has_unknown_place Branches t field = false
has_unknown_place Meters t field = not (has_place t (kind_of (field (codes "kind"))) (field (codes "at")))
has_unknown_place Candidates t field = not (has_place t (kind_of (field (codes "kind"))) (field (codes "at")))

-- a row within the limit has the fault of this code; the tables t have the rows before it
abbrev pub RowHas : RowFault → Table → Tables → Record → Record → Type 0
RowHas NoHeader table t header row = ⊥
RowHas ColumnMissing table t header row = ⊥
RowHas ColumnTwice table t header row = ⊥
RowHas ShortRow table t header row = IsTrue (is_short (read_columns table) header row)
RowHas BadName table t header row = IsTrue (not (is_name (field_of header row (own_column table))))
RowHas BadFlag table t header row = IsTrue (has_bad_flag table (field_of header row))
RowHas BadKind table t header row = IsTrue (has_bad_kind table (field_of header row))
RowHas BadPrice table t header row = IsTrue (has_bad_price table (field_of header row))
RowHas NameTwice table t header row = IsTrue (has_name (names_in table t) (field_of header row (own_column table)))
RowHas UnknownNode table t header row = IsTrue (has_unknown_node table t (field_of header row))
RowHas UnknownPlace table t header row = IsTrue (has_unknown_place table t (field_of header row))
RowHas TooMany table t header row = ⊥

-- the header has the fault of this code, or is missing
abbrev pub HeaderHas : RowFault → Table → List Record → Type 0
HeaderHas NoHeader table [] = Unit {0}
HeaderHas ColumnMissing table (header ∷ rows) = IsTrue (list_any (λ column. not (has_name header column)) (needed_columns table))
HeaderHas ColumnTwice table (header ∷ rows) = IsTrue (list_any (comes_twice header) (read_columns table))
HeaderHas code table records = ⊥

-- this row of a table's records has the fault of this code, over tables t without rows of it: the records before it are a header without
-- a fault and rows, and the row behind the limit has one fault alone
pub record HasRowFault (table : Table) (t : Tables) (records : List Record) (number : ℕ) (code : RowFault) : Type 0 where
  pub header : Record
  pub before : List Record
  pub row : Record
  pub after : List Record
  pub records_are : records ≡ header ∷ (before ++ row ∷ after)
  pub number_is : number ≡ length before + 1
  pub columns : header_fault table header ≡ None
  pub tables : Tables
  pub valid : IsValid tables
  pub rows : HasRows table header before t tables
  pub has : ((number ≡ tables.most + 1) × (code ≡ TooMany)) ⊎ ((number ≤ tables.most) × RowHas code table tables header row)

-- a fault of a table's bytes: a row, and a code whose condition holds there
abbrev pub IsFault : Table → Tables → List ℕ → ℕ → RowFault → Type 0
IsFault table t bytes row code = ((row ≡ 0) × HeaderHas code table (table_records t.most bytes)) ⊎ HasRowFault table t (table_records t.most bytes) row code

-- one fault of a table doesn't come after another: it stands in a lower row, or has no higher code in the same
abbrev pub NotAfter : ℕ → RowFault → ℕ → RowFault → Type 0
NotAfter row code other other_code = (row < other) ⊎ ((row ≡ other) × (fault_code code ≤ fault_code other_code))

-- a fault of tables that are read in this order, given the tables before it
abbrev pub IsFaultAmong : List (Table × List ℕ) → Tables → Table → ℕ → RowFault → Type 0
IsFaultAmong [] t table row code = ⊥
IsFaultAmong (file ∷ files) t table row code =
    ((file.0 ≡ table) × IsFault file.0 t file.1 row code) ⊎ ((u : Tables) × IsTableOf file.0 file.1 t u × IsFaultAmong files u table row code)

-- the tables of a case with their bytes, in their order; that of candidates may not be given
abbrev pub files_of : List ℕ → List ℕ → List ℕ → List ℕ → Option (List ℕ) → List (Table × List ℕ)
files_of nodes switches branches meters None = (Nodes, nodes) ∷ (Switches, switches) ∷ (Branches, branches) ∷ (Meters, meters) ∷ []
files_of nodes switches branches meters (Some bytes) = (Nodes, nodes) ∷ (Switches, switches) ∷ (Branches, branches) ∷ (Meters, meters) ∷ (Candidates, bytes) ∷ []

-- the tables behind a file of another format, where one of candidates may stand
abbrev pub files_behind : List ℕ → Option (List ℕ) → List (Table × List ℕ)
files_behind meters None = (Meters, meters) ∷ []
files_behind meters (Some bytes) = (Meters, meters) ∷ (Candidates, bytes) ∷ []

-- a table's place in this order
abbrev pub place_of_table : Table → ℕ
place_of_table Nodes = 0
place_of_table Switches = 1
place_of_table Branches = 2
place_of_table Meters = 3
place_of_table Candidates = 4

-- one fault of some tables doesn't come after another: it is of a lower table, or of the same and doesn't come after it there
abbrev pub NotAfterAmong : Table → ℕ → RowFault → Table → ℕ → RowFault → Type 0
NotAfterAmong table row code other other_row other_code =
    (place_of_table table < place_of_table other) ⊎ ((table ≡ other) × NotAfter row code other_row other_code)

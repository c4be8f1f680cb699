-- A table's columns, and the reading of fields.
use Rattle.std.specs.Prelude.{ℕ, Bool, true, false, not, nat_le, nat_lt, count_by, List, [], ◌∷◌, ◌++◌, codes, Option, None, Some, is_none, unwrap_or, if◌then◌else◌}
use Rattle.std.specs.List.{list_any}
use Rattle.std.specs.Str.{bytes_eq}
use Rattle.csv.specs.Records.{field_at}
use Rattle.obs_text.specs.Numbers.{whole_of}
use Rattle.obs_case.specs.declared.rows.Kind.{Kind}
use Rattle.obs_case.specs.declared.rows.Kind.TheVariants.{Flow, Injection, Zero, Angle}
use Rattle.obs_case.specs.Tables.{has_name, most_price, place_of, position_of}
use Rattle.obs_case_csv.specs.declared.faults.RowFault.{RowFault}
use Rattle.obs_case_csv.specs.declared.faults.RowFault.TheVariants.{ColumnMissing, ColumnTwice}
use Rattle.obs_case_csv.specs.declared.faults.Table.{Table}
use Rattle.obs_case_csv.specs.declared.faults.Table.TheVariants.{Nodes, Switches, Branches, Meters, Candidates}

-- a record: its fields
abbrev pub Record : Type 0
Record = List (List ℕ)

-- the columns that a table needs; the first is the row's own name
abbrev pub needed_columns : Table → List (List ℕ)
needed_columns Nodes = codes "node" ∷ codes "source" ∷ []
needed_columns Switches = codes "switch" ∷ codes "from" ∷ codes "to" ∷ codes "closed" ∷ []
needed_columns Branches = codes "branch" ∷ codes "from" ∷ codes "to" ∷ codes "inservice" ∷ []
needed_columns Meters = codes "meter" ∷ codes "kind" ∷ codes "at" ∷ codes "inservice" ∷ []
needed_columns Candidates = codes "candidate" ∷ codes "kind" ∷ codes "at" ∷ codes "price" ∷ []

-- the columns that a table may have
abbrev pub further_columns : Table → List (List ℕ)
further_columns Nodes = codes "absolute" ∷ []
further_columns Switches = []
further_columns Branches = []
further_columns Meters = []
further_columns Candidates = []

-- the columns that are read; all others are ignored
abbrev pub read_columns : Table → List (List ℕ)
read_columns table = needed_columns table ++ further_columns table

-- a column that stands in a header more than once
abbrev pub comes_twice : Record → List ℕ → Bool
comes_twice header column = nat_lt 1 (count_by (bytes_eq column) header)

-- a needed column isn't in the header, or one that is read is in it twice
abbrev pub columns_fault : List (List ℕ) → List (List ℕ) → Record → Option RowFault
columns_fault needed read header =
    if list_any (λ column. not (has_name header column)) needed then Some ColumnMissing
    else (if list_any (comes_twice header) read then Some ColumnTwice else None)

-- the same of the header of a table
abbrev pub header_fault : Table → Record → Option RowFault
header_fault table header = columns_fault (needed_columns table) (read_columns table) header

-- the record's field at a place, if it has one; at no place it is read as `0`
abbrev pub field_or_0 : Record → Option ℕ → Option (List ℕ)
field_or_0 row None = Some (codes "0")
field_or_0 row (Some place) = field_at row place

-- the record's field under a column of the header, if it has one; where the header lacks `absolute`, each record has `0` under it
abbrev pub field_under : Record → Record → List ℕ → Option (List ℕ)
field_under header row column =
    if bytes_eq column (codes "absolute") then field_or_0 row (position_of header column) else field_at row (place_of header column)

-- the same field, empty where there is none
abbrev pub field_of : Record → Record → List ℕ → List ℕ
field_of header row column = unwrap_or (field_under header row column) []

-- the record has no field under one of these columns
abbrev pub is_short : List (List ℕ) → Record → Record → Bool
is_short columns header row = list_any (λ column. is_none (field_under header row column)) columns

-- a flag: 0 is false, and 1 is true
abbrev pub flag_of : List ℕ → Option Bool
flag_of bytes = if bytes_eq bytes (codes "0") then Some false else (if bytes_eq bytes (codes "1") then Some true else None)

-- what a meter measures
abbrev pub kind_of : List ℕ → Option Kind
kind_of bytes =
    if bytes_eq bytes (codes "flow") then Some Flow
    else (if bytes_eq bytes (codes "injection") then Some Injection
    else (if bytes_eq bytes (codes "zero") then Some Zero else (if bytes_eq bytes (codes "angle") then Some Angle else None)))

-- a number that is a price
abbrev pub price_within : Option ℕ → Option ℕ
price_within None = None
price_within (Some n) = if nat_le n most_price then Some n else None

-- a price: a whole number, at most 1,000,000,000
abbrev pub price_of : List ℕ → Option ℕ
price_of bytes = price_within (whole_of bytes)

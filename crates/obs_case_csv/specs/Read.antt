-- What the bytes of tables are: the tables that have their rows, or the first fault.
use Rattle.std.specs.Prelude.{ℕ, ◌+◌, List, [], ◌∷◌, Option, None, Some, is_none, if◌then◌else◌, Result, Ok, Err}
use Rattle.csv.specs.Reading.{default_config, records_from, strip_bom}
use Rattle.csv.specs.declared.parser.State.TheVariants as st
use Rattle.obs_case.specs.Tables.{Tables, no_rows_within}
use Rattle.obs_case_csv.specs.declared.faults.RowFault.{RowFault}
use Rattle.obs_case_csv.specs.declared.faults.RowFault.TheVariants.{NoHeader}
use Rattle.obs_case_csv.specs.declared.faults.Table.{Table}
use Rattle.obs_case_csv.specs.declared.faults.Table.TheVariants.{Nodes, Switches, Branches, Meters, Candidates}
use Rattle.obs_case_csv.specs.declared.faults.TableFault.{TableFault}
use Rattle.obs_case_csv.specs.Fields.{Record, header_fault}
use Rattle.obs_case_csv.specs.Rows.{next_row, row_fault, with_record}

-- the records that are asked for of a table that may have so many rows: a header, and one row more
abbrev pub most_records : ℕ → ℕ
most_records most = most + 2

-- the records of the bytes of such a table
abbrev pub table_records : ℕ → List ℕ → List Record
table_records most bytes = records_from default_config (most_records most) st.StartRecord (strip_bom bytes)

-- a fault in a row of a table, if there is one
abbrev pub fault_at : Table → ℕ → Option RowFault → Option TableFault
fault_at table row None = None
fault_at table row (Some code) = Some (record { table = table; row = row; code = code })

-- the earlier of two faults
abbrev pub earlier : Option TableFault → Option TableFault → Option TableFault
earlier None later = later
earlier (Some fault) later = Some fault

-- the first fault of the rows that come next, given the rows before them
unfoldable pub first_fault : Table → Record → Tables → List Record → Option TableFault
first_fault table header t [] = None
first_fault table header t (row ∷ rows) =
    earlier (fault_at table (next_row table t) (row_fault table header t row)) (first_fault table header (with_record table header t row) rows)

-- the tables with the rows before the first fault
unfoldable pub rows_before : Table → Record → Tables → List Record → Tables
rows_before table header t [] = t
rows_before table header t (row ∷ rows) =
    if is_none (row_fault table header t row) then rows_before table header (with_record table header t row) rows else t

-- the first fault of a table's records, given the other tables
abbrev pub fault_of_records : Table → Tables → List Record → Option TableFault
fault_of_records table t [] = fault_at table 0 (Some NoHeader)
fault_of_records table t (header ∷ rows) = earlier (fault_at table 0 (header_fault table header)) (first_fault table header t rows)

-- the tables with the rows of a table's records before the first fault
abbrev pub rows_of_records : Table → Tables → List Record → Tables
rows_of_records table t [] = t
rows_of_records table t (header ∷ rows) = if is_none (header_fault table header) then rows_before table header t rows else t

-- the first fault of a table's bytes, and the tables with the rows before it
abbrev pub fault_in : Table → Tables → List ℕ → Option TableFault
fault_in table t bytes = fault_of_records table t (table_records t.most bytes)

abbrev pub rows_in : Table → Tables → List ℕ → Tables
rows_in table t bytes = rows_of_records table t (table_records t.most bytes)

-- the tables with a further table read, or the first fault
abbrev pub tables_or : Option TableFault → Tables → Result Tables TableFault
tables_or None t = Ok t
tables_or (Some fault) t = Err fault

abbrev pub then_read : Table → List ℕ → Result Tables TableFault → Result Tables TableFault
then_read table bytes (Ok t) = tables_or (fault_in table t bytes) (rows_in table t bytes)
then_read table bytes (Err fault) = Err fault

-- a table that isn't given is empty
abbrev pub then_read_given : Table → Option (List ℕ) → Result Tables TableFault → Result Tables TableFault
then_read_given table None before = before
then_read_given table (Some bytes) before = then_read table bytes before

-- the meters, and the candidates if they are given, read after other tables
abbrev pub tables_after : List ℕ → Option (List ℕ) → Tables → Result Tables TableFault
tables_after meters candidates tables = then_read_given Candidates candidates (then_read Meters meters (Ok tables))

-- the case under this limit that the bytes of five tables are, or the first fault
abbrev pub tables_within : ℕ → List ℕ → List ℕ → List ℕ → List ℕ → Option (List ℕ) → Result Tables TableFault
tables_within most nodes switches branches meters candidates =
    then_read_given Candidates candidates (then_read Meters meters (then_read Branches branches (then_read Switches switches (then_read Nodes nodes (Ok (no_rows_within most))))))

-- What reading tables has found so far, and how it may end.
use Rattle.std.specs.Prelude.{ℕ, ◌≡◌, List, take, Option, None, Some, is_none, if◌then◌else◌, Result, Ok, Err}
use Rattle.obs_case.specs.Tables.{Tables, usual_rows}
use Rattle.obs_case_csv.specs.declared.faults.Table.{Table}
use Rattle.obs_case_csv.specs.declared.faults.Table.TheVariants.{Meters, Candidates}
use Rattle.obs_case_csv.specs.declared.faults.TableEnd.{TableEnd}
use Rattle.obs_case_csv.specs.declared.faults.TableEnd.TheVariants.{Fault, NoMemory}
use Rattle.obs_case_csv.specs.declared.faults.TableFault.{TableFault}
use Rattle.obs_case_csv.specs.Read.{table_records, rows_of_records, fault_in, rows_in, tables_within}

-- the tables with the rows of a table that may be given, before its first fault
abbrev pub rows_if_given : Table → Option (List ℕ) → Tables → Tables
rows_if_given table None t = t
rows_if_given table (Some bytes) t = rows_in table t bytes

-- the tables with the rows of the meters' table before its first fault, and where it has none, with those of the candidates' before theirs
abbrev pub rows_of_both : List ℕ → Option (List ℕ) → Tables → Tables
rows_of_both meters candidates t =
    if is_none (fault_in Meters t meters) then rows_if_given Candidates candidates (rows_in Meters t meters) else rows_in Meters t meters

-- the tables that have the rows of some of a table's first records
abbrev pub HoldsFirstRows : Table → List ℕ → Tables → Tables → Type 0
HoldsFirstRows table bytes old new = (n : ℕ) × (new ≡ rows_of_records table old (take n (table_records old.most bytes)))

-- the same of a table that may be given
abbrev pub HoldsFirstRowsIfGiven : Table → Option (List ℕ) → Tables → Tables → Type 0
HoldsFirstRowsIfGiven table None old new = new ≡ old
HoldsFirstRowsIfGiven table (Some bytes) old new = HoldsFirstRows table bytes old new

-- the tables that have the rows of some of the first records of the meters' table, and then of the candidates', and nothing else new
abbrev pub HoldsFirstRowsOfBoth : List ℕ → Option (List ℕ) → Tables → Tables → Type 0
HoldsFirstRowsOfBoth meters candidates old new =
    (metered : Tables) × HoldsFirstRows Meters meters old metered × HoldsFirstRowsIfGiven Candidates candidates metered new

-- an answer that ends the reading of a table: want of memory, or this fault
abbrev pub Ends : Option TableFault → TableEnd → Type 0
Ends fault (Fault f) = fault ≡ Some f
Ends fault NoMemory = Unit {0}

-- a fact for every answer but want of memory
abbrev pub UnlessNoMemory : {T : Type 0} → Result T TableEnd → Type 0 → Type 0
UnlessNoMemory (Ok x) P = P
UnlessNoMemory (Err (Fault f)) P = P
UnlessNoMemory (Err NoMemory) P = Unit {0}

-- the case that the bytes of five tables are, or the first fault, under the usual limit
abbrev pub tables_in : List ℕ → List ℕ → List ℕ → List ℕ → Option (List ℕ) → Result Tables TableFault
tables_in nodes switches branches meters candidates = tables_within usual_rows nodes switches branches meters candidates

-- an answer that ends the reading of tables, one after another: want of memory, or this fault
abbrev pub EndsAll : Result Tables TableFault → TableEnd → Type 0
EndsAll read (Fault f) = read ≡ Err f
EndsAll read NoMemory = Unit {0}

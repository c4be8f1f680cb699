-- What the reading of one table, and of two, gives and keeps.
use Rattle.std.specs.Prelude.{ℕ, ◌≡◌, List, [], ◌∷◌, Option, None, Some, MatchOption, MatchResult, Result, Ok}
use Rattle.obs_case.specs.Tables.{IsValid, Tables, no_rows_within, usual_rows}
use Rattle.obs_case_csv.specs.declared.faults.RowFault.{RowFault}
use Rattle.obs_case_csv.specs.declared.faults.Table.{Table}
use Rattle.obs_case_csv.specs.declared.faults.Table.TheVariants.{Nodes, Switches}
use Rattle.obs_case_csv.specs.declared.faults.TableFault.{TableFault}
use Rattle.obs_case_csv.specs.Fields.{Record}
use Rattle.obs_case_csv.specs.inner.IsFault.{IsFault, IsFaultAmong, NotAfter, NotAfterAmong, files_behind, files_of}
use Rattle.obs_case_csv.specs.inner.OneTable.{HasRowsBefore, IsSwitchingCaseWithin, IsTableOf, SameBut}
use Rattle.obs_case_csv.specs.Read.{fault_in, rows_in, rows_of_records, table_records, tables_after, tables_within, then_read}
use Rattle.obs_case_csv.specs.inner.Read.{HoldsFirstRows}
use Rattle.obs_case_csv.specs.Rows.{names_in}

-- valid tables stay valid as a table's rows before its first fault are added
abbrev pub KeepsValid : Type 0
KeepsValid = (table : Table) (t : Tables) (bytes : List ℕ) → IsValid t → IsValid (rows_in table t bytes)

-- of a table that valid tables have no rows of: no fault is met exactly where the bytes are that table, and then these are the rows that
-- are read
abbrev pub TableIsRead : Type 0
TableIsRead =
    (table : Table) (t : Tables) (bytes : List ℕ) → IsValid t → names_in table t ≡ [] →
    (fault_in table t bytes ≡ None → IsTableOf table bytes t (rows_in table t bytes))
    × ((u : Tables) → IsTableOf table bytes t u → (fault_in table t bytes ≡ None) × (rows_in table t bytes ≡ u))

-- as rows of a table are read, all others stay
abbrev pub OtherTablesStay : Type 0
OtherTablesStay = (table : Table) (t : Tables) (records : List Record) → SameBut table t (rows_of_records table t records)

-- after a fault of a table that was empty: it has a row for each record between the header and the faulty one, and all others stay
abbrev pub RowsBeforeFault : Type 0
RowsBeforeFault =
    (table : Table) (t : Tables) (bytes : List ℕ) (fault : TableFault) → names_in table t ≡ [] → fault_in table t bytes ≡ Some fault →
    HasRowsBefore table fault.row (table_records t.most bytes) t (rows_in table t bytes)

-- where the reading may have ended anywhere, the same up to some record
abbrev pub RowsBeforeSome : Type 0
RowsBeforeSome =
    (table : Table) (t u : Tables) (bytes : List ℕ) → names_in table t ≡ [] → HoldsFirstRows table bytes t u →
    (number : ℕ) × HasRowsBefore table number (table_records t.most bytes) t u

-- of nodes and switches alone, under a limit: the case that is read is the only one that the bytes are, and a fault is given exactly where
-- they are none
abbrev pub SwitchingIsReadWithin : ℕ → Type 0
SwitchingIsReadWithin most =
    (nodes switches : List ℕ)
    → MatchResult (then_read Switches switches (then_read Nodes nodes (Ok (no_rows_within most))))
    (λ t. IsSwitchingCaseWithin most nodes switches t × ((u : Tables) → IsSwitchingCaseWithin most nodes switches u → u ≡ t))
    (λ fault. (t : Tables) → IsSwitchingCaseWithin most nodes switches t → ⊥)

-- the same under the usual limit
abbrev pub SwitchingIsRead : Type 0
SwitchingIsRead = SwitchingIsReadWithin usual_rows

-- of a table that valid tables have no rows of: the fault that is met is one, and no fault of the table comes before it; none is met
-- exactly where the table has none
abbrev pub FirstFault : Type 0
FirstFault =
    (table : Table) (t : Tables) (bytes : List ℕ) → IsValid t → names_in table t ≡ [] →
    MatchOption (fault_in table t bytes) ((row : ℕ) (code : RowFault) → IsFault table t bytes row code → ⊥)
    (λ fault.
    (fault.table ≡ table) × IsFault table t bytes fault.row fault.code
    × ((row : ℕ) (code : RowFault) → IsFault table t bytes row code → NotAfter fault.row fault.code row code))

-- of some tables that are read one after another into a case: the fault that is met is one, and no fault of them comes before it; none
-- is met exactly where they have none
abbrev pub MeetsFirst : List (Table × List ℕ) → Tables → Result Tables TableFault → Type 0
MeetsFirst files t read =
    MatchResult read
    (λ u. (table : Table) (row : ℕ) (code : RowFault) → IsFaultAmong files t table row code → ⊥)
    (λ fault.
    IsFaultAmong files t fault.table fault.row fault.code
    × ((table : Table) (row : ℕ) (code : RowFault) → IsFaultAmong files t table row code → NotAfterAmong fault.table fault.row fault.code table row code))

-- so it is of the tables of a case, under a limit
abbrev pub FirstFaultOfCaseWithin : ℕ → Type 0
FirstFaultOfCaseWithin most =
    (nodes switches branches meters : List ℕ) (candidates : Option (List ℕ)) →
    MeetsFirst (files_of nodes switches branches meters candidates) (no_rows_within most) (tables_within most nodes switches branches meters candidates)

-- of nodes and switches alone
abbrev pub FirstFaultOfSwitchingWithin : ℕ → Type 0
FirstFaultOfSwitchingWithin most =
    (nodes switches : List ℕ) →
    MeetsFirst ((Nodes, nodes) ∷ (Switches, switches) ∷ []) (no_rows_within most) (then_read Switches switches (then_read Nodes nodes (Ok (no_rows_within most))))

-- both under the usual limit
abbrev pub FirstFaultOfCase : Type 0
FirstFaultOfCase = FirstFaultOfCaseWithin usual_rows

abbrev pub FirstFaultOfSwitching : Type 0
FirstFaultOfSwitching = FirstFaultOfSwitchingWithin usual_rows

-- and of the tables behind a file of another format
abbrev pub FirstFaultBehindFile : Type 0
FirstFaultBehindFile =
    (meters : List ℕ) (candidates : Option (List ℕ)) (t : Tables) → IsValid t → t.meters ≡ [] → t.candidates ≡ [] →
    MeetsFirst (files_behind meters candidates) t (tables_after meters candidates t)

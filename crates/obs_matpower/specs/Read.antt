-- The buses and branches that a file's bytes are, or its first fault; and the case that it is with its tables.
use Rattle.std.specs.Prelude.{ℕ, ◌+◌, ◌&&◌, Bool, false, not, nat_le, List, [], length, map, get_or, Option, None, Some, Result, Ok, Err, if◌then◌else◌}
use Rattle.obs_case.specs.Tables.{Tables}
use Rattle.obs_case.specs.declared.rows.Branch.{Branch}
use Rattle.obs_case_csv.specs.declared.faults.TableFault.{TableFault}
use Rattle.obs_case_csv.specs.Read.{tables_after}
use Rattle.obs_bus_branch.specs.Buses.{Bus, branch_name, has_bus, place_of_bus, tables_of_rows}
use Rattle.obs_bus_branch.specs.Rows.{at_end, on_ok, read_rows}
use Rattle.obs_matpower.specs.declared.fault.MatEnd.{MatEnd}
use Rattle.obs_matpower.specs.declared.fault.MatEnd.TheVariants.{Mat, Table}
use Rattle.obs_matpower.specs.declared.fault.MatFault.{MatFault}
use Rattle.obs_matpower.specs.declared.fault.MatFault.TheVariants.{BadBusNumber, BadType, BusTwice, UnknownBus, TooMany, ShortRow, BadStatus}
use Rattle.obs_matpower.specs.declared.fields.BusType.{BusType}
use Rattle.obs_matpower.specs.declared.part.MatTable.{MatTable}
use Rattle.obs_matpower.specs.declared.part.MatTable.TheVariants as table
use Rattle.obs_matpower.specs.Fields.{is_isolated, is_short, is_source, number_in, status_in, type_in}
use Rattle.obs_matpower.specs.Table.{end_of}
use Rattle.obs_matpower.specs.Whole.{table_rows}

-- what the rows of a table are, or its first fault
abbrev pub read_table : {R : Type 0} → (List R → ℕ → List ℕ → Result R MatFault) → MatTable → List ℕ → Result (List R) MatFault
read_table read table bytes = on_ok (read_rows read [] (table_rows table bytes)) (at_end (end_of table bytes))

-- a bus row: the number of the bus and its type
pub record BusRow : Type 0 where
  pub number : ℕ
  pub kind : BusType

-- the buses of such rows, as other formats have them too, and which of them are isolated
abbrev pub buses_of : List BusRow → List Bus
buses_of rows = map (λ (row : BusRow). record { number = row.number; source = is_source row.kind }) rows

abbrev pub isolated_of : List BusRow → List Bool
isolated_of rows = map (λ (row : BusRow). is_isolated row.kind) rows

-- the bus of a number and a type, after those before it
abbrev pub bus_of : List BusRow → ℕ → Option ℕ → Option BusType → Result BusRow MatFault
bus_of earlier at None kind = Err (BadBusNumber at)
bus_of earlier at (Some number) None = Err (BadType at)
bus_of earlier at (Some number) (Some kind) =
    if has_bus (buses_of earlier) number then Err (BusTwice at) else Ok (record { number = number; kind = kind })

-- the bus that a row is, after those before it, where a table may have at most so many rows
abbrev pub read_bus : ℕ → List BusRow → ℕ → List ℕ → Result BusRow MatFault
read_bus most earlier at row =
    if nat_le most (length earlier) then Err (TooMany at)
    else if is_short 2 row then Err (ShortRow at)
    else bus_of earlier at (number_in 1 row) (type_in 2 row)

-- whether the bus of this number is isolated
abbrev pub is_cut_off : List BusRow → ℕ → Bool
is_cut_off rows number = get_or (isolated_of rows) (place_of_bus (buses_of rows) number) false

-- the branch of this name between two numbers of buses. It is in service where its status says so and neither end is isolated
abbrev pub branch_between : List BusRow → ℕ → ℕ → ℕ → Bool → Branch
branch_between rows k from to status =
    record {
      name = branch_name k;
      from = place_of_bus (buses_of rows) from;
      to = place_of_bus (buses_of rows) to;
      inservice = status && not (is_cut_off rows from) && not (is_cut_off rows to);
    }

-- the k-th branch, where its status is one
abbrev pub with_status : List BusRow → ℕ → ℕ → ℕ → ℕ → Option Bool → Result Branch MatFault
with_status rows k at from to None = Err (BadStatus at)
with_status rows k at from to (Some status) = Ok (branch_between rows k from to status)

-- the k-th branch, between two numbers and with a status
abbrev pub branch_of : List BusRow → ℕ → ℕ → Option ℕ → Option ℕ → Option Bool → Result Branch MatFault
branch_of rows k at None to status = Err (BadBusNumber at)
branch_of rows k at (Some from) None status = Err (BadBusNumber at)
branch_of rows k at (Some from) (Some to) status =
    if has_bus (buses_of rows) from && has_bus (buses_of rows) to then with_status rows k at from to status else Err (UnknownBus at)

-- the branch that a row is, after those before it
abbrev pub read_branch : ℕ → List BusRow → List Branch → ℕ → List ℕ → Result Branch MatFault
read_branch most rows earlier at row =
    if nat_le most (length earlier) then Err (TooMany at)
    else if is_short 11 row then Err (ShortRow at)
    else branch_of rows (length earlier + 1) at (number_in 1 row) (number_in 2 row) (status_in 11 row)

-- the nodes and branches that a file's bytes are, where a table may have at most so many rows, or its first fault: those of the bus table
-- come before those of the branch table
abbrev pub mat_within : ℕ → List ℕ → Result Tables MatFault
mat_within most bytes =
    on_ok (read_table (read_bus most) table.Bus bytes) (λ rows.
    on_ok (read_table (read_branch most rows) table.Branch bytes) (λ branches.
    Ok (tables_of_rows most (buses_of rows) branches)))

-- an answer of tables, with a table's fault as an end
abbrev pub as_end : Result Tables TableFault → Result Tables MatEnd
as_end (Ok tables) = Ok tables
as_end (Err fault) = Err (Table fault)

-- the tables read after the nodes and branches of a file
abbrev pub with_tables : List ℕ → Option (List ℕ) → Result Tables MatFault → Result Tables MatEnd
with_tables meters candidates (Err fault) = Err (Mat fault)
with_tables meters candidates (Ok tables) = as_end (tables_after meters candidates tables)

-- the case that the bytes are, where a table may have at most so many rows, or the first fault: those of the file come before those of
-- the tables
abbrev pub case_within : ℕ → List ℕ → List ℕ → Option (List ℕ) → Result Tables MatEnd
case_within most matpower meters candidates = with_tables meters candidates (mat_within most matpower)

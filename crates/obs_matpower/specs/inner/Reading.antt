-- What reading one row, or the rows of a table, answers and leaves.
use Rattle.std.specs.Prelude.{◌≡◌, ℕ, List, [], Bool, Option, Result, Ok, Err}
use Rattle.obs_case.specs.Tables.{Tables}
use Rattle.obs_case.specs.declared.rows.Branch.{Branch}
use Rattle.obs_case.specs.declared.table.AddFault.{AddFault}
use Rattle.obs_case.specs.declared.table.AddFault.TheVariants as add
use Rattle.obs_bus_branch.specs.Buses.{Bus, tables_of_rows}
use Rattle.obs_bus_branch.specs.inner.Buses.{AreBusesBelow}
use Rattle.obs_bus_branch.specs.Rows.{at_end, on_ok, read_rows}
use Rattle.obs_matpower.specs.declared.fault.MatFault.{MatFault}
use Rattle.obs_matpower.specs.declared.stop.Stop.{Stop}
use Rattle.obs_matpower.specs.declared.stop.Stop.TheVariants.{Fault, NoMemory}
use Rattle.obs_matpower.specs.Read.{BusRow, buses_of, isolated_of}
use Rattle.obs_matpower.specs.inner.Rows.{rows_of}

-- what is stated was read and is held, or the stated fault was met; memory may be wanting at any point
abbrev pub Answers : {A S : Type 0} → Result A MatFault → (A → S) → S → Result (Unit {0}) Stop → Type 0
Answers {A} stated held after (Ok done) = (rows : A) × (stated ≡ Ok rows) × (after ≡ held rows)
Answers stated held after (Err (Fault fault)) = stated ≡ Err fault
Answers stated held after (Err NoMemory) = Unit {0}

-- what holds buses that were read: a case of this limit of rows, and which of them are isolated
abbrev pub held_buses : ℕ → List BusRow → Tables × List Bool
held_buses most rows = (tables_of_rows most (buses_of rows) [], isolated_of rows)

-- what holds branches that were read after buses
abbrev pub held_branches : ℕ → List BusRow → List Branch → Tables
held_branches most rows branches = tables_of_rows most (buses_of rows) branches

-- what the rows of a text are, which has this line and this end
abbrev pub read_text : {R : Type 0} → (List R → ℕ → List ℕ → Result R MatFault) → Bool → ℕ → List ℕ → Option MatFault → Result (List R) MatFault
read_text read ended line text end = on_ok (read_rows read [] (rows_of ended line text)) (at_end end)

-- buses with numbers of at most nine digits, no two of which are equal
abbrev pub AreBuses : List Bus → Type 0
AreBuses buses = AreBusesBelow 1000000000 buses

-- why reading stops at a row that a case refuses for this cause
abbrev pub stop_of : AddFault → MatFault → Stop
stop_of add.NoMemory cause = NoMemory
stop_of add.NameTwice cause = Fault cause
stop_of add.UnknownNode cause = Fault cause
stop_of add.UnknownPlace cause = Fault cause
stop_of add.TooMany cause = Fault cause

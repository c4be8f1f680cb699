-- Which rows of a file have which faults, given that the rows before them have none; a table has its own where no row has one.
use Rattle.std.specs.Prelude.{◌≡◌, ◌<◌, ◌≤◌, ◌⊎◌, ℕ, true, false, List, length, None, Some}
use Rattle.obs_case.specs.declared.rows.Branch.{Branch}
use Rattle.obs_bus_branch.specs.Buses.{has_bus}
use Rattle.obs_bus_branch.specs.inner.Rows.{HasRowFault}
use Rattle.obs_matpower.specs.declared.fault.MatFault.{MatFault}
use Rattle.obs_matpower.specs.declared.fault.MatFault.TheVariants.{NoBusTable, BusTableOpen, NoBranchTable, BranchTableOpen, BadBusNumber, BadType, BusTwice, UnknownBus, TooMany, ShortRow, BadStatus}
use Rattle.obs_matpower.specs.declared.part.MatTable.TheVariants as table
use Rattle.obs_matpower.specs.inner.Case.{AreAllBranches, AreAllBuses}
use Rattle.obs_matpower.specs.Faults.{mat_code, mat_line}
use Rattle.obs_matpower.specs.Fields.{is_short, number_in, status_in, type_in}
use Rattle.obs_matpower.specs.Read.{BusRow, buses_of}
use Rattle.obs_matpower.specs.Table.{end_of, is_ended, is_there}
use Rattle.obs_matpower.specs.Whole.{table_rows}

-- a row that may stand in its table and has values enough
pub record IsWhole (most before columns : ℕ) (row : List ℕ) : Type 0 where
  pub room : before < most
  pub long : is_short columns row ≡ false

-- a bus row on this line, after these others, has the fault. One row too many has one fault alone, and so has one that is short
abbrev pub BusRowHas : ℕ → List BusRow → ℕ → List ℕ → MatFault → Type 0
BusRowHas most earlier at row NoBusTable = ⊥
BusRowHas most earlier at row BusTableOpen = ⊥
BusRowHas most earlier at row NoBranchTable = ⊥
BusRowHas most earlier at row BranchTableOpen = ⊥
BusRowHas most earlier at row (BadBusNumber n) = (n ≡ at) × IsWhole most (length earlier) 2 row × (number_in 1 row ≡ None)
BusRowHas most earlier at row (BadType n) = (n ≡ at) × IsWhole most (length earlier) 2 row × (type_in 2 row ≡ None)
BusRowHas most earlier at row (BusTwice n) =
    (n ≡ at) × IsWhole most (length earlier) 2 row × (number : ℕ) × (number_in 1 row ≡ Some number) × (has_bus (buses_of earlier) number ≡ true)
BusRowHas most earlier at row (UnknownBus n) = ⊥
BusRowHas most earlier at row (TooMany n) = (n ≡ at) × (length earlier ≡ most)
BusRowHas most earlier at row (ShortRow n) = (n ≡ at) × (length earlier < most) × (is_short 2 row ≡ true)
BusRowHas most earlier at row (BadStatus n) = ⊥

-- a branch row on this line, after these others, has the fault
abbrev pub BranchRowHas : ℕ → List BusRow → List Branch → ℕ → List ℕ → MatFault → Type 0
BranchRowHas most buses earlier at row NoBusTable = ⊥
BranchRowHas most buses earlier at row BusTableOpen = ⊥
BranchRowHas most buses earlier at row NoBranchTable = ⊥
BranchRowHas most buses earlier at row BranchTableOpen = ⊥
BranchRowHas most buses earlier at row (BadBusNumber n) =
    (n ≡ at) × IsWhole most (length earlier) 11 row × ((number_in 1 row ≡ None) ⊎ (number_in 2 row ≡ None))
BranchRowHas most buses earlier at row (BadType n) = ⊥
BranchRowHas most buses earlier at row (BusTwice n) = ⊥
BranchRowHas most buses earlier at row (UnknownBus n) =
    (n ≡ at) × IsWhole most (length earlier) 11 row × (number : ℕ)
    × ((number_in 1 row ≡ Some number) ⊎ (number_in 2 row ≡ Some number)) × (has_bus (buses_of buses) number ≡ false)
BranchRowHas most buses earlier at row (TooMany n) = (n ≡ at) × (length earlier ≡ most)
BranchRowHas most buses earlier at row (ShortRow n) = (n ≡ at) × (length earlier < most) × (is_short 11 row ≡ true)
BranchRowHas most buses earlier at row (BadStatus n) = (n ≡ at) × IsWhole most (length earlier) 11 row × (status_in 11 row ≡ None)

-- the bus table isn't there or isn't ended
abbrev pub BusTableHas : List ℕ → MatFault → Type 0
BusTableHas bytes NoBusTable = is_there table.Bus bytes ≡ false
BusTableHas bytes BusTableOpen = (is_there table.Bus bytes ≡ true) × (is_ended table.Bus bytes ≡ false)
BusTableHas bytes NoBranchTable = ⊥
BusTableHas bytes BranchTableOpen = ⊥
BusTableHas bytes (BadBusNumber n) = ⊥
BusTableHas bytes (BadType n) = ⊥
BusTableHas bytes (BusTwice n) = ⊥
BusTableHas bytes (UnknownBus n) = ⊥
BusTableHas bytes (TooMany n) = ⊥
BusTableHas bytes (ShortRow n) = ⊥
BusTableHas bytes (BadStatus n) = ⊥

-- the branch table isn't there or isn't ended
abbrev pub BranchTableHas : List ℕ → MatFault → Type 0
BranchTableHas bytes NoBusTable = ⊥
BranchTableHas bytes BusTableOpen = ⊥
BranchTableHas bytes NoBranchTable = is_there table.Branch bytes ≡ false
BranchTableHas bytes BranchTableOpen = (is_there table.Branch bytes ≡ true) × (is_ended table.Branch bytes ≡ false)
BranchTableHas bytes (BadBusNumber n) = ⊥
BranchTableHas bytes (BadType n) = ⊥
BranchTableHas bytes (BusTwice n) = ⊥
BranchTableHas bytes (UnknownBus n) = ⊥
BranchTableHas bytes (TooMany n) = ⊥
BranchTableHas bytes (ShortRow n) = ⊥
BranchTableHas bytes (BadStatus n) = ⊥

-- a fault of the branch table, after these buses: of one of its rows, where those before it are branches, or, where all of them are,
-- of the table
abbrev pub IsBranchFault : ℕ → List BusRow → List ℕ → MatFault → Type 0
IsBranchFault most buses bytes fault =
    HasRowFault (AreAllBranches most buses) (BranchRowHas most buses) (table_rows table.Branch bytes) fault
    ⊎ ((branches : List Branch) × AreAllBranches most buses (table_rows table.Branch bytes) branches × BranchTableHas bytes fault)

-- a fault of a file's bytes, where a table may have at most so many rows: of a row of the bus table, where those before it are buses, or,
-- where all of them are, of that table, or, where it is there and ended, of the branch table
abbrev pub IsFault : ℕ → List ℕ → MatFault → Type 0
IsFault most bytes fault =
    HasRowFault (AreAllBuses most) (BusRowHas most) (table_rows table.Bus bytes) fault
    ⊎ ((buses : List BusRow) × AreAllBuses most (table_rows table.Bus bytes) buses
    × (BusTableHas bytes fault ⊎ ((end_of table.Bus bytes ≡ None) × IsBranchFault most buses bytes fault)))

-- a fault stands on the same line as another, and has no higher number
pub record IsNotAfter (fault other : MatFault) : Type 0 where
  pub same_line : mat_line fault ≡ mat_line other
  pub not_higher : mat_code fault ≤ mat_code other

-- When bytes are the nodes and branches of a case: a relation on the whole lists of rows.
use Rattle.std.specs.Prelude.{◌≡◌, ℕ, ◌≤◌, ◌&&◌, Bool, false, not, nat_eq, List, length, map, get_or, Option, None, Some}
use Rattle.std.specs.List.{IsDistinct}
use Rattle.obs_case.specs.Tables.{Tables}
use Rattle.obs_case.specs.declared.rows.Branch.{Branch}
use Rattle.obs_case_csv.specs.declared.faults.Table.TheVariants.{Meters}
use Rattle.obs_case_csv.specs.inner.OneTable.{HasCandidates, IsTableOf}
use Rattle.obs_bus_branch.specs.Buses.{branch_name, tables_of_rows}
use Rattle.obs_bus_branch.specs.inner.Buses.{IsEnd}
use Rattle.obs_bus_branch.specs.inner.Rows.{AreRows}
use Rattle.obs_matpower.specs.declared.part.MatTable.TheVariants as table
use Rattle.obs_matpower.specs.Fields.{is_short, number_in, status_in, type_in}
use Rattle.obs_matpower.specs.Read.{BusRow, buses_of, isolated_of}
use Rattle.obs_matpower.specs.Table.{end_of}
use Rattle.obs_matpower.specs.Whole.{table_rows}

-- a row is this bus
pub record IsBusRow (row : List ℕ) (bus : BusRow) : Type 0 where
  pub long : is_short 2 row ≡ false
  pub number : number_in 1 row ≡ Some bus.number
  pub kind : type_in 2 row ≡ Some bus.kind

-- each row is the bus at its place
abbrev pub AreBusRows : List (ℕ × List ℕ) → List BusRow → Type 0
AreBusRows rows buses = AreRows (λ k. IsBusRow) 1 rows buses

-- whether the bus at this position is isolated
abbrev pub isolated_at : List BusRow → ℕ → Bool
isolated_at buses position = get_or (isolated_of buses) position false

-- a row is this branch, the k-th: in service where its status is 1 and neither end is isolated
pub record IsBranchRow (buses : List BusRow) (k : ℕ) (row : List ℕ) (branch : Branch) : Type 0 where
  pub long : is_short 11 row ≡ false
  pub name : branch.name ≡ branch_name k
  pub from : IsEnd (buses_of buses) (number_in 1 row) branch.from
  pub to : IsEnd (buses_of buses) (number_in 2 row) branch.to
  pub status : Bool
  pub stated : status_in 11 row ≡ Some status
  pub inservice : branch.inservice ≡ (status && not (isolated_at buses branch.from) && not (isolated_at buses branch.to))

-- each row is the branch at its place
abbrev pub AreBranchRows : List BusRow → List (ℕ × List ℕ) → List Branch → Type 0
AreBranchRows buses rows branches = AreRows (IsBranchRow buses) 1 rows branches

-- rows are these buses, with different numbers, at most so many
pub record AreAllBuses (most : ℕ) (rows : List (ℕ × List ℕ)) (buses : List BusRow) : Type 0 where
  pub are : AreBusRows rows buses
  pub few : length rows ≤ most
  pub different : IsDistinct nat_eq (map (λ (bus : BusRow). bus.number) buses)

-- rows are these branches between buses, at most so many
pub record AreAllBranches (most : ℕ) (buses : List BusRow) (rows : List (ℕ × List ℕ)) (branches : List Branch) : Type 0 where
  pub are : AreBranchRows buses rows branches
  pub few : length rows ≤ most

-- a file has both tables, and they are these buses and branches
pub record AreTables (most : ℕ) (bytes : List ℕ) (buses : List BusRow) (branches : List Branch) : Type 0 where
  pub bus_table : end_of table.Bus bytes ≡ None
  pub buses_are : AreAllBuses most (table_rows table.Bus bytes) buses
  pub branch_table : end_of table.Branch bytes ≡ None
  pub branches_are : AreAllBranches most buses (table_rows table.Branch bytes) branches

-- a file's bytes are these nodes and branches, where a table may have at most so many rows
abbrev pub IsFile : ℕ → List ℕ → Tables → Type 0
IsFile most bytes tables =
    (buses : List BusRow) × (branches : List Branch) × AreTables most bytes buses branches × (tables ≡ tables_of_rows most (buses_of buses) branches)

-- a file's bytes and those of its tables are this case: it has the file's nodes and branches, and the rows of the tables
abbrev pub IsCase : ℕ → List ℕ → List ℕ → Option (List ℕ) → Tables → Type 0
IsCase most matpower meters candidates tables =
    (file metered : Tables) × IsFile most matpower file × IsTableOf Meters meters file metered × HasCandidates candidates metered tables

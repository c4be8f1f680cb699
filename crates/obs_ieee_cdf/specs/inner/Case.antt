-- When bytes are the nodes and branches of a case: a relation on the whole lists of lines.
use Rattle.std.specs.Prelude.{◌≡◌, ℕ, ◌≤◌, true, nat_eq, List, length, map, Option, None, Some}
use Rattle.std.specs.List.{IsDistinct}
use Rattle.obs_text.specs.Lines.{ended_lines}
use Rattle.obs_case.specs.Tables.{Tables}
use Rattle.obs_case.specs.declared.rows.Branch.{Branch}
use Rattle.obs_case_csv.specs.declared.faults.Table.TheVariants.{Meters}
use Rattle.obs_case_csv.specs.inner.OneTable.{HasCandidates, IsTableOf}
use Rattle.obs_bus_branch.specs.Buses.{Bus, branch_name, tables_of_rows}
use Rattle.obs_bus_branch.specs.inner.Buses.{IsEnd}
use Rattle.obs_bus_branch.specs.inner.Rows.{AreRows}
use Rattle.obs_ieee_cdf.specs.Fields.{bus_field, number_of, source_of, tap_field, type_field, z_field}
use Rattle.obs_ieee_cdf.specs.Rows.{branch_rows, bus_rows}
use Rattle.obs_ieee_cdf.specs.Sections.{end_fault}

-- a bus line is this bus
pub record IsBusLine (line : List ℕ) (bus : Bus) : Type 0 where
  pub number : number_of (bus_field line) ≡ Some bus.number
  pub source : source_of (type_field line) ≡ Some bus.source

-- each bus line is the bus at its place
abbrev pub AreBusLines : List (ℕ × List ℕ) → List Bus → Type 0
AreBusLines lines buses = AreRows (λ k. IsBusLine) 1 lines buses

-- a branch line is this branch, the k-th
pub record IsBranchLine (buses : List Bus) (k : ℕ) (line : List ℕ) (branch : Branch) : Type 0 where
  pub name : branch.name ≡ branch_name k
  pub from : IsEnd buses (number_of (tap_field line)) branch.from
  pub to : IsEnd buses (number_of (z_field line)) branch.to
  pub inservice : branch.inservice ≡ true

-- each branch line is the branch at its place
abbrev pub AreBranchLines : List Bus → List (ℕ × List ℕ) → List Branch → Type 0
AreBranchLines buses lines branches = AreRows (IsBranchLine buses) 1 lines branches

-- the lines of a file are these buses and branches, at most so many of each
pub record AreLines (most : ℕ) (file : List (List ℕ)) (buses : List Bus) (branches : List Branch) : Type 0 where
  pub whole : end_fault file ≡ None
  pub bus_lines : AreBusLines (bus_rows file) buses
  pub few_buses : length (bus_rows file) ≤ most
  pub different : IsDistinct nat_eq (map (λ (bus : Bus). bus.number) buses)
  pub branch_lines : AreBranchLines buses (branch_rows file) branches
  pub few : length (branch_rows file) ≤ most

-- a file's bytes are these nodes and branches, where a table may have at most so many rows
abbrev pub IsFile : ℕ → List ℕ → Tables → Type 0
IsFile most bytes tables =
    (buses : List Bus) × (branches : List Branch) × AreLines most (ended_lines bytes) buses branches × (tables ≡ tables_of_rows most buses branches)

-- a file's bytes and those of its tables are this case: it has the file's nodes and branches, and the rows of the tables
abbrev pub IsCase : ℕ → List ℕ → List ℕ → Option (List ℕ) → Tables → Type 0
IsCase most cdf meters candidates tables =
    (file metered : Tables) × IsFile most cdf file × IsTableOf Meters meters file metered × HasCandidates candidates metered tables

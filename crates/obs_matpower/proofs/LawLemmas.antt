-- What is read from rows, and what rows are.
use Rattle.std.proofs.Common.{◌≡◌, ℕ, ◌+◌, ◌<◌, ◌≤◌, false, not, ◌&&◌, ◌||◌, eqb, List, [], ◌∷◌, length, map, None, Result, Ok, Err, refl, sym, ap, ◌∙◌, subst, length-append, arith}
use Rattle.std.proofs.lemmas.Bool.{lt-leb}
use Rattle.std.specs.List.{IsDistinct, list_any}
use Rattle.obs_case.specs.Tables.{Tables}
use Rattle.obs_case.specs.declared.rows.Branch.{Branch}
use Rattle.obs_bus_branch.specs.Buses.{Bus, branch_name, has_bus, place_of_bus, tables_of_rows}
use Rattle.obs_bus_branch.specs.Rows.{at_end, on_ok, read_rows}
use Rattle.obs_bus_branch.proofs.NumberLemmas.{AreBuses-none, fresh_number, same_branch}
use Rattle.obs_bus_branch.proofs.RowsRead.{are-read_rows, read_rows-are, read_rows-few, read_rows-good, same_length}
use Rattle.obs_matpower.specs.declared.fault.MatFault.{MatFault}
use Rattle.obs_matpower.specs.declared.part.MatTable.{MatTable}
use Rattle.obs_matpower.specs.declared.part.MatTable.TheVariants as table
use Rattle.obs_matpower.specs.inner.Case.{AreAllBranches, AreAllBuses, IsBranchRow, IsBusRow, IsFile, isolated_at}
use Rattle.obs_matpower.specs.inner.Laws.{FileIsRead}
use Rattle.obs_matpower.specs.Read.{BusRow, buses_of, is_cut_off, mat_within, read_branch, read_bus, read_table}
use Rattle.obs_matpower.specs.inner.Reading.{AreBuses}
use Rattle.obs_matpower.specs.Table.{end_of}
use Rattle.obs_matpower.specs.Whole.{table_rows}
use Rattle.obs_matpower.proofs.FileLemmas.{after_buses, table_read}
use Rattle.obs_matpower.proofs.RowReads.{read_branch-row, read_bus-good, read_bus-is}

-- ---- bus rows

-- the buses of rows have a number where a row has it
has_bus-row : (rows : List BusRow) (n : ℕ) → has_bus (buses_of rows) n ≡ list_any (λ (r : BusRow). eqb r.number n) rows
has_bus-row [] n = refl
has_bus-row (row ∷ rows) n = ap (λ b. eqb row.number n || b) (has_bus-row rows n)

read-bus_row : (most : ℕ) (earlier : List BusRow) (at : ℕ) (row : List ℕ) (bus : BusRow) → length earlier < most → IsBusRow row bus → has_bus (buses_of earlier) bus.number ≡ false → read_bus most earlier at row ≡ Ok bus
read-bus_row most earlier at row bus few is fresh = rw (lt-leb most (length earlier) few, is.long, is.number, is.kind, fresh) refl

numbers_same : (rows : List BusRow) → map (λ (b : Bus). b.number) (buses_of rows) ≡ map (λ (b : BusRow). b.number) rows
numbers_same [] = refl
numbers_same (row ∷ rows) = ap (λ ns. row.number ∷ ns) (numbers_same rows)

-- no more rows are read than a table may have
pub few_buses : (most : ℕ) (rows : List (ℕ × List ℕ)) (buses : List BusRow) → read_rows (read_bus most) [] rows ≡ Ok buses → length buses ≤ most
few_buses most rows buses is = read_rows-few (read_bus most) most (λ earlier at row bus e. (read_bus-is most earlier at row bus e).few) rows buses is

-- rows that are read as buses are all buses, and the other way round
pub buses_are : (most : ℕ) (rows : List (ℕ × List ℕ)) (buses : List BusRow) → read_rows (read_bus most) [] rows ≡ Ok buses → AreAllBuses most rows buses
buses_are most rows buses is =
    let good = read_rows-good (read_bus most) (λ bs. AreBuses (buses_of bs)) (read_bus-good most) [] rows buses AreBuses-none is in
    let are = read_rows-are (read_bus most) (λ k. IsBusRow) (λ earlier at row bus e. (read_bus-is most earlier at row bus e).is_row) rows buses is in
    record {
      are = are;
      few = omega (arith, few_buses most rows buses is, same_length (λ k. IsBusRow) 1 rows buses are);
      different = subst (IsDistinct eqb) (numbers_same buses) good.different;
    }

pub buses_read : (most : ℕ) (rows : List (ℕ × List ℕ)) (buses : List BusRow) → AreAllBuses most rows buses → read_rows (read_bus most) [] rows ≡ Ok buses
buses_read most rows buses all =
    let long = same_length (λ k. IsBusRow) 1 rows buses all.are in
    are-read_rows (read_bus most) (λ k. IsBusRow) buses
    (λ earlier at row bus later is here. read-bus_row most earlier at row bus (omega (arith, all.few, long, ap length is, length-append earlier (bus ∷ later))) here
    (has_bus-row earlier bus.number ∙ fresh_number (λ (b : BusRow). b.number) earlier bus later (subst (λ bs. IsDistinct eqb (map (λ (b : BusRow). b.number) bs)) is all.different)))
    rows all.are

-- ---- branch rows

read-branch_row : (most : ℕ) (buses : List BusRow) (earlier : List Branch) (at : ℕ) (row : List ℕ) (branch : Branch) → length earlier < most → IsBranchRow buses (length earlier + 1) row branch → read_branch most buses earlier at row ≡ Ok branch
read-branch_row most buses earlier at row branch few is =
    let service : branch.inservice ≡ (is.status && not (is_cut_off buses is.from.number) && not (is_cut_off buses is.to.number)) =
    is.inservice
    ∙ ap (λ i. is.status && not (isolated_at buses i) && not (isolated_at buses branch.to)) is.from.place
    ∙ ap (λ i. is.status && not (is_cut_off buses is.from.number) && not (isolated_at buses i)) is.to.place in
    rw (lt-leb most (length earlier) few, is.long, is.from.named, is.to.named, is.stated, is.from.there, is.to.there)
    (ap (λ b. Ok b) (same_branch branch (branch_name (length earlier + 1)) (place_of_bus (buses_of buses) is.from.number) (place_of_bus (buses_of buses) is.to.number)
    (is.status && not (is_cut_off buses is.from.number) && not (is_cut_off buses is.to.number)) is.name is.from.place is.to.place service))

pub few_branches : (most : ℕ) (buses : List BusRow) (rows : List (ℕ × List ℕ)) (branches : List Branch) → read_rows (read_branch most buses) [] rows ≡ Ok branches → length branches ≤ most
few_branches most buses rows branches is = read_rows-few (read_branch most buses) most (λ earlier at row branch e. (read_branch-row most buses earlier at row branch e).1) rows branches is

pub branches_are : (most : ℕ) (buses : List BusRow) (rows : List (ℕ × List ℕ)) (branches : List Branch) → read_rows (read_branch most buses) [] rows ≡ Ok branches → AreAllBranches most buses rows branches
branches_are most buses rows branches is =
    let are = read_rows-are (read_branch most buses) (IsBranchRow buses) (λ earlier at row branch e. (read_branch-row most buses earlier at row branch e).0) rows branches is in
    record { are = are; few = omega (arith, few_branches most buses rows branches is, same_length (IsBranchRow buses) 1 rows branches are) }

pub branches_read : (most : ℕ) (buses : List BusRow) (rows : List (ℕ × List ℕ)) (branches : List Branch) → AreAllBranches most buses rows branches → read_rows (read_branch most buses) [] rows ≡ Ok branches
branches_read most buses rows branches all =
    let long = same_length (IsBranchRow buses) 1 rows branches all.are in
    are-read_rows (read_branch most buses) (IsBranchRow buses) branches
    (λ earlier at row branch later is here. read-branch_row most buses earlier at row branch (omega (arith, all.few, long, ap length is, length-append earlier (branch ∷ later))) here)
    rows all.are

-- ---- files

-- a table whose rows are read and which has no fault at its end is read
pub rows_read : {R : Type 0} (read : List R → ℕ → List ℕ → Result R MatFault) (which : MatTable) (bytes : List ℕ) (rows : List R) → read_rows read [] (table_rows which bytes) ≡ Ok rows → end_of which bytes ≡ None
    → read_table read which bytes ≡ Ok rows
rows_read read which bytes rows is whole = ap (λ r. on_ok r (at_end (end_of which bytes))) is ∙ ap (λ end. at_end end rows) whole

module _ (most : ℕ) (bytes : List ℕ) (tables : Tables) where
  branches_part : (buses : List BusRow) (r : Result (List Branch) MatFault) → read_table (read_bus most) table.Bus bytes ≡ Ok buses → read_table (read_branch most buses) table.Branch bytes ≡ r
      → on_ok r (λ branches. Ok (tables_of_rows most (buses_of buses) branches)) ≡ Ok tables → IsFile most bytes tables
  branches_part buses (Err fault) of_buses of_branches is = cc
  branches_part buses (Ok branches) of_buses of_branches is =
      let bus_part = table_read (read_bus most) table.Bus bytes buses of_buses in
      let branch_part = table_read (read_branch most buses) table.Branch bytes branches of_branches in
      let same : Ok (tables_of_rows most (buses_of buses) branches) ≡ Ok tables = is in
      let made : tables_of_rows most (buses_of buses) branches ≡ tables = cc in (
        buses,
        branches,
        record {
          bus_table = bus_part.1;
          buses_are = buses_are most (table_rows table.Bus bytes) buses bus_part.0;
          branch_table = branch_part.1;
          branches_are = branches_are most buses (table_rows table.Branch bytes) branches branch_part.0;
        },
        sym made,
      )

  buses_part : (r : Result (List BusRow) MatFault) → read_table (read_bus most) table.Bus bytes ≡ r → on_ok r (after_buses most bytes) ≡ Ok tables → IsFile most bytes tables
  buses_part (Err fault) of_buses is = cc
  buses_part (Ok buses) of_buses is = branches_part buses (read_table (read_branch most buses) table.Branch bytes) of_buses refl is

  pub file_is : mat_within most bytes ≡ Ok tables → IsFile most bytes tables
  file_is is = buses_part (read_table (read_bus most) table.Bus bytes) refl is

  pub file_read : IsFile most bytes tables → mat_within most bytes ≡ Ok tables
  file_read (buses, branches, are, is) =
      ap (λ r. on_ok r (after_buses most bytes)) (rows_read (read_bus most) table.Bus bytes buses (buses_read most (table_rows table.Bus bytes) buses are.buses_are) are.bus_table)
      ∙ ap (λ r. on_ok r (λ rows. Ok (tables_of_rows most (buses_of buses) rows)))
      (rows_read (read_branch most buses) table.Branch bytes branches (branches_read most buses (table_rows table.Branch bytes) branches are.branches_are) are.branch_table)
      ∙ ap (λ t. Ok t) (sym is)

pub FileIsRead-holds : FileIsRead
FileIsRead-holds most bytes tables = (file_is most bytes tables, file_read most bytes tables)

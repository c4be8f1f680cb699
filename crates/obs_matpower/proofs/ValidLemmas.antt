-- A case that is read is valid.
use Rattle.std.proofs.Common.{◌≡◌, ◌≤◌, ℕ, List, [], ◌∷◌, ◌++◌, Ok, sym, subst, arith}
use Rattle.obs_case.specs.Tables.{IsValid, most_rows}
use Rattle.obs_case.specs.declared.rows.Branch.{Branch}
use Rattle.obs_case.proofs.ValidLemmas.{valid-no_rows_within}
use Rattle.obs_bus_branch.specs.Buses.{tables_of_rows}
use Rattle.obs_bus_branch.specs.Rows.{read_rows}
use Rattle.obs_bus_branch.proofs.NumberLemmas.{AreBuses-none}
use Rattle.obs_bus_branch.proofs.RowsRead.{read_rows-good}
use Rattle.obs_bus_branch.proofs.ValidLemmas.{GoodBranches, GoodBranches-push, GoodBuses, GoodBuses-push}
use Rattle.obs_matpower.specs.Fields.{is_source, number_in}
use Rattle.obs_matpower.specs.Read.{BusRow, buses_of, read_branch, read_bus}
use Rattle.obs_matpower.proofs.AddLemmas.{nodes-length}
use Rattle.obs_matpower.proofs.NumberLemmas.{number_in-lt}
use Rattle.obs_matpower.proofs.RowReads.{buses-push, read_branch-row, read_bus-is}

-- a bus more, and a branch more, that are read
bus-valid : (most : ℕ) (earlier : List BusRow) (at : ℕ) (row : List ℕ) → GoodBuses 1000000000 most (buses_of earlier) → (bus : BusRow) → read_bus most earlier at row ≡ Ok bus → GoodBuses 1000000000 most (buses_of (earlier ++ bus ∷ []))
bus-valid most earlier at row good bus is =
    let b = read_bus-is most earlier at row bus is in
    subst (GoodBuses 1000000000 most) (sym (buses-push earlier bus))
    (GoodBuses-push (buses_of earlier) (record { number = bus.number; source = is_source bus.kind }) good (omega arith) (omega (arith, b.few, nodes-length earlier))
    (number_in-lt 1 row bus.number b.is_row.number) b.fresh)

branch-valid : (most : ℕ) (buses : List BusRow) (earlier : List Branch) (at : ℕ) (row : List ℕ) → GoodBranches most (buses_of buses) earlier → (branch : Branch) → read_branch most buses earlier at row ≡ Ok branch → GoodBranches most (buses_of buses) (earlier ++ branch ∷ [])
branch-valid most buses earlier at row good branch is =
    let b = read_branch-row most buses earlier at row branch is in
    GoodBranches-push most (buses_of buses) earlier branch good b.1 b.0.name (number_in 1 row) (number_in 2 row) b.0.from b.0.to

-- buses and branches that are read are valid
pub valid-rows : (most : ℕ) → most ≤ most_rows → (bus_rows : List (ℕ × List ℕ)) (buses : List BusRow) (branch_rows : List (ℕ × List ℕ)) (branches : List Branch) → read_rows (read_bus most) [] bus_rows ≡ Ok buses → read_rows (read_branch most buses) [] branch_rows ≡ Ok branches
    → IsValid (tables_of_rows most (buses_of buses) branches)
valid-rows most limit bus_rows buses branch_rows branches of_buses of_branches =
    let good = read_rows-good (read_bus most) (λ bs. GoodBuses 1000000000 most (buses_of bs)) (bus-valid most) [] bus_rows buses (record { buses = AreBuses-none; valid = valid-no_rows_within most limit }) of_buses in
    (read_rows-good (read_branch most buses) (GoodBranches most (buses_of buses)) (branch-valid most buses) [] branch_rows branches (record { named = tt; valid = good.valid }) of_branches).valid

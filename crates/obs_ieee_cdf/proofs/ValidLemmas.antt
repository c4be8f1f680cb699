-- A case that is read is valid.
use Rattle.std.proofs.Common.{◌≡◌, ◌≤◌, ℕ, List, [], ◌∷◌, ◌++◌, Ok, arith}
use Rattle.std.proofs.lemmas.List.{length-map}
use Rattle.obs_case.specs.Tables.{IsValid, most_rows}
use Rattle.obs_case.specs.declared.rows.Branch.{Branch}
use Rattle.obs_case.proofs.ValidLemmas.{valid-no_rows_within}
use Rattle.obs_bus_branch.specs.Buses.{Bus, node_of_bus, tables_of_rows}
use Rattle.obs_bus_branch.proofs.NumberLemmas.{AreBuses-none}
use Rattle.obs_bus_branch.proofs.RowsRead.{read_rows-good}
use Rattle.obs_bus_branch.proofs.ValidLemmas.{GoodBranches, GoodBranches-push, GoodBuses, GoodBuses-push}
use Rattle.obs_ieee_cdf.specs.inner.Case.{AreLines}
use Rattle.obs_ieee_cdf.specs.Fields.{bus_field, number_of, tap_field, z_field}
use Rattle.obs_ieee_cdf.specs.Rows.{branch_rows, bus_rows, read_branch, read_bus}
use Rattle.obs_ieee_cdf.proofs.LawLemmas.{branches_read, buses_read}
use Rattle.obs_ieee_cdf.proofs.NumberLemmas.{number_of-lt}
use Rattle.obs_ieee_cdf.proofs.ReadLemmas.{read_branch-line, read_bus-line}

-- a bus more that is read
bus-valid : (most : ℕ) (earlier : List Bus) (at : ℕ) (line : List ℕ) → GoodBuses 10000 most earlier → (bus : Bus) → read_bus most earlier at line ≡ Ok bus → GoodBuses 10000 most (earlier ++ bus ∷ [])
bus-valid most earlier at line good bus is =
    let b = read_bus-line most earlier at line bus is in
    let few = b.2 in
    GoodBuses-push earlier bus good (omega arith) (omega (arith, few, length-map earlier node_of_bus))
    (number_of-lt (bus_field line) bus.number b.0.number) b.1

-- a branch more that is read
branch-valid : (most : ℕ) (buses : List Bus) (earlier : List Branch) (at : ℕ) (line : List ℕ) → GoodBranches most buses earlier → (branch : Branch) → read_branch most buses earlier at line ≡ Ok branch → GoodBranches most buses (earlier ++ branch ∷ [])
branch-valid most buses earlier at line good branch is =
    let b = read_branch-line most buses earlier at line branch is in
    GoodBranches-push most buses earlier branch good b.1 b.0.name (number_of (tap_field line)) (number_of (z_field line)) b.0.from b.0.to

-- lines that are buses and branches are valid
pub valid-lines : (most : ℕ) → most ≤ most_rows → (file : List (List ℕ)) (buses : List Bus) (branches : List Branch) → AreLines most file buses branches → IsValid (tables_of_rows most buses branches)
valid-lines most limit file buses branches are =
    let of_buses = buses_read most (bus_rows file) buses (record { are = are.bus_lines; few = are.few_buses; different = are.different }) in
    let of_branches = branches_read most buses (branch_rows file) branches are.branch_lines are.few in
    let good = read_rows-good (read_bus most) (GoodBuses 10000 most) (bus-valid most) [] (bus_rows file) buses (record { buses = AreBuses-none; valid = valid-no_rows_within most limit }) of_buses in
    (read_rows-good (read_branch most buses) (GoodBranches most buses) (branch-valid most buses) [] (branch_rows file) branches (record { named = tt; valid = good.valid }) of_branches).valid

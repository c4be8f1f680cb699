-- The buses and branches that a file's lines are, or its first fault.
use Rattle.std.specs.Prelude.{ℕ, ◌+◌, ◌&&◌, Bool, true, nat_le, List, [], ◌∷◌, length, map, Option, None, Some, Result, Ok, Err, if◌then◌else◌}
use Rattle.obs_text.specs.Lines.{content, ended_lines}
use Rattle.obs_case.specs.Tables.{Tables}
use Rattle.obs_case.specs.declared.rows.Branch.{Branch}
use Rattle.obs_bus_branch.specs.Buses.{Bus, branch_name, has_bus, place_of_bus, tables_of_rows}
use Rattle.obs_bus_branch.specs.Rows.{at_end, on_ok, read_rows}
use Rattle.obs_ieee_cdf.specs.declared.fault.CdfFault.{CdfFault}
use Rattle.obs_ieee_cdf.specs.declared.fault.CdfFault.TheVariants.{BadBusNumber, BadType, BusTwice, UnknownBus, TooMany}
use Rattle.obs_ieee_cdf.specs.Fields.{bus_field, number_of, is_blank_line, source_of, tap_field, type_field, z_field}
use Rattle.obs_ieee_cdf.specs.Sections.{branch_lines, branches_from, bus_lines, buses_from, end_fault}

-- lines with their numbers, without those that are passed over
abbrev pub numbered : ℕ → List (List ℕ) → List (ℕ × List ℕ)
numbered at [] = []
numbered at (line ∷ lines) = if is_blank_line line then numbered (at + 1) lines else (at, line) ∷ numbered (at + 1) lines

-- the bus of a number and a type, after those before it
abbrev pub bus_of : List Bus → ℕ → Option ℕ → Option Bool → Result Bus CdfFault
bus_of earlier at None kind = Err (BadBusNumber at)
bus_of earlier at (Some number) None = Err (BadType at)
bus_of earlier at (Some number) (Some source) =
    if has_bus earlier number then Err (BusTwice at) else Ok (record { number = number; source = source })

-- the bus that a bus line is, after those before it, where a table may have at most so many rows
abbrev pub read_bus : ℕ → List Bus → ℕ → List ℕ → Result Bus CdfFault
read_bus most earlier at line =
    if nat_le most (length earlier) then Err (TooMany at)
    else bus_of earlier at (number_of (bus_field line)) (source_of (type_field line))

-- the k-th branch, between two numbers, in service
abbrev pub branch_of : List Bus → ℕ → ℕ → Option ℕ → Option ℕ → Result Branch CdfFault
branch_of buses k at None z = Err (BadBusNumber at)
branch_of buses k at (Some tap) None = Err (BadBusNumber at)
branch_of buses k at (Some tap) (Some z) =
    if has_bus buses tap && has_bus buses z
    then Ok (record { name = branch_name k; from = place_of_bus buses tap; to = place_of_bus buses z; inservice = true })
    else Err (UnknownBus at)

-- the branch that a branch line is, after those before it
abbrev pub read_branch : ℕ → List Bus → List Branch → ℕ → List ℕ → Result Branch CdfFault
read_branch most buses earlier at line =
    if nat_le most (length earlier) then Err (TooMany at)
    else branch_of buses (length earlier + 1) at (number_of (tap_field line)) (number_of (z_field line))

-- the bus lines and the branch lines of a file, numbered
abbrev pub bus_rows : List (List ℕ) → List (ℕ × List ℕ)
bus_rows file = numbered (buses_from file) (map content (bus_lines file))

abbrev pub branch_rows : List (List ℕ) → List (ℕ × List ℕ)
branch_rows file = numbered (branches_from file) (map content (branch_lines file))

-- the nodes and branches that a file's bytes are, where a table may have at most so many rows, or the first fault from its top
abbrev pub cdf_within : ℕ → List ℕ → Result Tables CdfFault
cdf_within most bytes =
    let file = ended_lines bytes in
    on_ok (read_rows (read_bus most) [] (bus_rows file)) (λ buses.
    on_ok (read_rows (read_branch most buses) [] (branch_rows file)) (λ branches.
    at_end (end_fault file) (tables_of_rows most buses branches)))

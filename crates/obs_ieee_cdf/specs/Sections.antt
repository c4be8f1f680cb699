-- Which lines of a file are its bus lines and its branch lines.
use Rattle.std.specs.Prelude.{ℕ, ◌+◌, ◌-◌, Bool, List, length, codes, Option, None, Some, if◌then◌else◌, nat_eq, not}
use Rattle.std.specs.List.{after_first, before_first, list_any, starts_with}
use Rattle.obs_text.specs.Lines.{content}
use Rattle.obs_ieee_cdf.specs.declared.fault.CdfFault.{CdfFault}
use Rattle.obs_ieee_cdf.specs.declared.fault.CdfFault.TheVariants.{NoBusSection, BusSectionOpen, NoBranchSection, BranchSectionOpen}

-- whether a line begins with a text
abbrev pub begins : List ℕ → List ℕ → Bool
begins text line = starts_with nat_eq (content line) text

-- the line before the bus lines, the line before the branch lines, and the line after either
abbrev pub is_bus_heading : List ℕ → Bool
is_bus_heading = begins (codes "BUS DATA")

abbrev pub is_branch_heading : List ℕ → Bool
is_branch_heading = begins (codes "BRANCH DATA")

abbrev pub is_end : List ℕ → Bool
is_end = begins (codes "-999")

-- the lines after the heading of the buses
abbrev pub after_bus_heading : List (List ℕ) → List (List ℕ)
after_bus_heading file = after_first is_bus_heading file

-- the bus lines: those up to the first that ends the section, or all where none does
abbrev pub bus_lines : List (List ℕ) → List (List ℕ)
bus_lines file = before_first is_end (after_bus_heading file)

-- the lines after the end of the bus section
abbrev pub after_buses : List (List ℕ) → List (List ℕ)
after_buses file = after_first is_end (after_bus_heading file)

-- the lines after the heading of the branches
abbrev pub after_branch_heading : List (List ℕ) → List (List ℕ)
after_branch_heading file = after_first is_branch_heading (after_buses file)

-- the branch lines: those up to the first that ends the section, or all where none does
abbrev pub branch_lines : List (List ℕ) → List (List ℕ)
branch_lines file = before_first is_end (after_branch_heading file)

-- the number, from 1, of the line with which the last lines of a file begin
abbrev pub number_of_first : List (List ℕ) → List (List ℕ) → ℕ
number_of_first file rest = length file - length rest + 1

-- the number of the line after a heading, or 0 where there is no heading
abbrev pub buses_from : List (List ℕ) → ℕ
buses_from file = if list_any is_bus_heading file then number_of_first file (after_bus_heading file) else 0

abbrev pub branches_from : List (List ℕ) → ℕ
branches_from file = if list_any is_branch_heading (after_buses file) then number_of_first file (after_branch_heading file) else 0

-- what is met at the end of the file: the first section that isn't there or isn't ended
abbrev pub end_fault : List (List ℕ) → Option CdfFault
end_fault file =
    if not (list_any is_bus_heading file) then Some NoBusSection
    else if not (list_any is_end (after_bus_heading file)) then Some BusSectionOpen
    else if not (list_any is_branch_heading (after_buses file)) then Some NoBranchSection
    else if not (list_any is_end (after_branch_heading file)) then Some BranchSectionOpen
    else None

-- Which lines of a file have which faults, given that the lines before them have none; sections have theirs where no line has one.
use Rattle.std.specs.Prelude.{◌≡◌, ◌<◌, ◌≤◌, ◌⊎◌, ℕ, true, false, nat_eq, List, length, map, None, Some}
use Rattle.std.specs.List.{IsDistinct, list_any}
use Rattle.obs_text.specs.Lines.{ended_lines}
use Rattle.obs_case.specs.declared.rows.Branch.{Branch}
use Rattle.obs_bus_branch.specs.Buses.{Bus, has_bus}
use Rattle.obs_bus_branch.specs.inner.Rows.{HasRowFault}
use Rattle.obs_ieee_cdf.specs.declared.fault.CdfFault.{CdfFault}
use Rattle.obs_ieee_cdf.specs.declared.fault.CdfFault.TheVariants.{NoBusSection, BusSectionOpen, NoBranchSection, BranchSectionOpen, BadBusNumber, BadType, BusTwice, UnknownBus, TooMany}
use Rattle.obs_ieee_cdf.specs.inner.Case.{AreBranchLines, AreBusLines}
use Rattle.obs_ieee_cdf.specs.Faults.{cdf_code, cdf_line}
use Rattle.obs_ieee_cdf.specs.Fields.{bus_field, number_of, source_of, tap_field, type_field, z_field}
use Rattle.obs_ieee_cdf.specs.Rows.{branch_rows, bus_rows}
use Rattle.obs_ieee_cdf.specs.Sections.{after_branch_heading, after_bus_heading, after_buses, is_branch_heading, is_bus_heading, is_end}

-- a bus line with this number, after these others, has the fault: its number or its type is none, or an earlier bus has its number; one
-- line too many has one fault alone
abbrev pub BusLineHas : ℕ → List Bus → ℕ → List ℕ → CdfFault → Type 0
BusLineHas most earlier at line NoBusSection = ⊥
BusLineHas most earlier at line BusSectionOpen = ⊥
BusLineHas most earlier at line NoBranchSection = ⊥
BusLineHas most earlier at line BranchSectionOpen = ⊥
BusLineHas most earlier at line (BadBusNumber n) = (n ≡ at) × (length earlier < most) × (number_of (bus_field line) ≡ None)
BusLineHas most earlier at line (BadType n) = (n ≡ at) × (length earlier < most) × (source_of (type_field line) ≡ None)
BusLineHas most earlier at line (BusTwice n) =
    (n ≡ at) × (length earlier < most) × (number : ℕ) × (number_of (bus_field line) ≡ Some number) × (has_bus earlier number ≡ true)
BusLineHas most earlier at line (UnknownBus n) = ⊥
BusLineHas most earlier at line (TooMany n) = (n ≡ at) × (length earlier ≡ most)

-- a branch line with this number, after these others, has the fault: an end is no number, or is that of no bus; one line too many has one
-- fault alone
abbrev pub BranchLineHas : ℕ → List Bus → List Branch → ℕ → List ℕ → CdfFault → Type 0
BranchLineHas most buses earlier at line NoBusSection = ⊥
BranchLineHas most buses earlier at line BusSectionOpen = ⊥
BranchLineHas most buses earlier at line NoBranchSection = ⊥
BranchLineHas most buses earlier at line BranchSectionOpen = ⊥
BranchLineHas most buses earlier at line (BadBusNumber n) =
    (n ≡ at) × (length earlier < most) × ((number_of (tap_field line) ≡ None) ⊎ (number_of (z_field line) ≡ None))
BranchLineHas most buses earlier at line (BadType n) = ⊥
BranchLineHas most buses earlier at line (BusTwice n) = ⊥
BranchLineHas most buses earlier at line (UnknownBus n) =
    (n ≡ at) × (length earlier < most) × (number : ℕ)
    × ((number_of (tap_field line) ≡ Some number) ⊎ (number_of (z_field line) ≡ Some number)) × (has_bus buses number ≡ false)
BranchLineHas most buses earlier at line (TooMany n) = (n ≡ at) × (length earlier ≡ most)

-- a section isn't there or isn't ended
abbrev pub SectionHas : List (List ℕ) → CdfFault → Type 0
SectionHas file NoBusSection = list_any is_bus_heading file ≡ false
SectionHas file BusSectionOpen = (list_any is_bus_heading file ≡ true) × (list_any is_end (after_bus_heading file) ≡ false)
SectionHas file NoBranchSection =
    (list_any is_bus_heading file ≡ true) × (list_any is_end (after_bus_heading file) ≡ true)
    × (list_any is_branch_heading (after_buses file) ≡ false)
SectionHas file BranchSectionOpen =
    (list_any is_bus_heading file ≡ true) × (list_any is_end (after_bus_heading file) ≡ true)
    × (list_any is_branch_heading (after_buses file) ≡ true) × (list_any is_end (after_branch_heading file) ≡ false)
SectionHas file (BadBusNumber n) = ⊥
SectionHas file (BadType n) = ⊥
SectionHas file (BusTwice n) = ⊥
SectionHas file (UnknownBus n) = ⊥
SectionHas file (TooMany n) = ⊥

-- the bus lines are buses with different numbers, at most so many
pub record AreAllBuses (most : ℕ) (lines : List (ℕ × List ℕ)) (buses : List Bus) : Type 0 where
  pub are : AreBusLines lines buses
  pub few : length lines ≤ most
  pub different : IsDistinct nat_eq (map (λ (bus : Bus). bus.number) buses)

-- a bus line has the fault, and the bus lines before it are buses
abbrev pub HasBusFault : ℕ → List (ℕ × List ℕ) → CdfFault → Type 0
HasBusFault most lines fault = HasRowFault (AreAllBuses most) (BusLineHas most) lines fault

-- a branch line has the fault, and the branch lines before it are branches between buses
abbrev pub HasBranchFault : ℕ → List Bus → List (ℕ × List ℕ) → CdfFault → Type 0
HasBranchFault most buses lines fault = HasRowFault (AreBranchLines buses) (BranchLineHas most buses) lines fault

-- a section has the fault, and all branch lines are branches between buses
pub record HasSectionFault (most : ℕ) (buses : List Bus) (file : List (List ℕ)) (fault : CdfFault) : Type 0 where
  pub branches : List Branch
  pub branches_are : AreBranchLines buses (branch_rows file) branches
  pub few : length (branch_rows file) ≤ most
  pub has : SectionHas file fault

-- a fault of a file's bytes, where a table may have at most so many rows: of a bus line, or, where all bus lines are buses, of a branch
-- line or a section
abbrev pub IsFault : ℕ → List ℕ → CdfFault → Type 0
IsFault most bytes fault =
    let file = ended_lines bytes in
    HasBusFault most (bus_rows file) fault
    ⊎ ((buses : List Bus) × AreAllBuses most (bus_rows file) buses
    × (HasBranchFault most buses (branch_rows file) fault ⊎ HasSectionFault most buses file fault))

-- a fault stands on the same line as another, and has no higher number
pub record IsNotAfter (fault other : CdfFault) : Type 0 where
  pub same_line : cdf_line fault ≡ cdf_line other
  pub not_higher : cdf_code fault ≤ cdf_code other

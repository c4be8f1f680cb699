-- The numbers, names and lines of faults, and what is said of each.
use Rattle.std.specs.Prelude.{ℕ, List, codes}
use Rattle.obs_text.specs.Faults.{Fault}
use Rattle.obs_ieee_cdf.specs.declared.fault.CdfFault.{CdfFault}
use Rattle.obs_ieee_cdf.specs.declared.fault.CdfFault.TheVariants.{NoBusSection, BusSectionOpen, NoBranchSection, BranchSectionOpen, BadBusNumber, BadType, BusTwice, UnknownBus, TooMany}

-- a fault's number
abbrev pub cdf_code : CdfFault → ℕ
cdf_code NoBusSection = 1
cdf_code BusSectionOpen = 2
cdf_code NoBranchSection = 3
cdf_code BranchSectionOpen = 4
cdf_code (BadBusNumber line) = 5
cdf_code (BadType line) = 6
cdf_code (BusTwice line) = 7
cdf_code (UnknownBus line) = 8
cdf_code (TooMany line) = 9

-- a fault's name in bytes
abbrev pub cdf_name : CdfFault → List ℕ
cdf_name NoBusSection = codes "NoBusSection"
cdf_name BusSectionOpen = codes "BusSectionOpen"
cdf_name NoBranchSection = codes "NoBranchSection"
cdf_name BranchSectionOpen = codes "BranchSectionOpen"
cdf_name (BadBusNumber line) = codes "BadBusNumber"
cdf_name (BadType line) = codes "BadType"
cdf_name (BusTwice line) = codes "BusTwice"
cdf_name (UnknownBus line) = codes "UnknownBus"
cdf_name (TooMany line) = codes "TooMany"

-- the line of a fault, which is 0 where there is none
abbrev pub cdf_line : CdfFault → ℕ
cdf_line NoBusSection = 0
cdf_line BusSectionOpen = 0
cdf_line NoBranchSection = 0
cdf_line BranchSectionOpen = 0
cdf_line (BadBusNumber line) = line
cdf_line (BadType line) = line
cdf_line (BusTwice line) = line
cdf_line (UnknownBus line) = line
cdf_line (TooMany line) = line

-- what is said of a file's fault: the file, the line, and the fault's number and name
abbrev pub cdf_fault : CdfFault → Fault
cdf_fault fault = record { part = codes "cdf"; place = cdf_line fault; code = cdf_code fault; name = cdf_name fault }

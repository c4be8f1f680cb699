-- The numbers, names and lines of faults, and what is said of each.
use Rattle.std.specs.Prelude.{ℕ, List, codes}
use Rattle.obs_text.specs.Faults.{Fault}
use Rattle.obs_matpower.specs.declared.fault.MatFault.{MatFault}
use Rattle.obs_matpower.specs.declared.fault.MatFault.TheVariants.{NoBusTable, BusTableOpen, NoBranchTable, BranchTableOpen, BadBusNumber, BadType, BusTwice, UnknownBus, TooMany, ShortRow, BadStatus}

-- a fault's number
abbrev pub mat_code : MatFault → ℕ
mat_code NoBusTable = 1
mat_code BusTableOpen = 2
mat_code NoBranchTable = 3
mat_code BranchTableOpen = 4
mat_code (BadBusNumber line) = 5
mat_code (BadType line) = 6
mat_code (BusTwice line) = 7
mat_code (UnknownBus line) = 8
mat_code (TooMany line) = 9
mat_code (ShortRow line) = 10
mat_code (BadStatus line) = 11

-- a fault's name in bytes
abbrev pub mat_name : MatFault → List ℕ
mat_name NoBusTable = codes "NoBusTable"
mat_name BusTableOpen = codes "BusTableOpen"
mat_name NoBranchTable = codes "NoBranchTable"
mat_name BranchTableOpen = codes "BranchTableOpen"
mat_name (BadBusNumber line) = codes "BadBusNumber"
mat_name (BadType line) = codes "BadType"
mat_name (BusTwice line) = codes "BusTwice"
mat_name (UnknownBus line) = codes "UnknownBus"
mat_name (TooMany line) = codes "TooMany"
mat_name (ShortRow line) = codes "ShortRow"
mat_name (BadStatus line) = codes "BadStatus"

-- the line of a fault, which is 0 where there is none
abbrev pub mat_line : MatFault → ℕ
mat_line NoBusTable = 0
mat_line BusTableOpen = 0
mat_line NoBranchTable = 0
mat_line BranchTableOpen = 0
mat_line (BadBusNumber line) = line
mat_line (BadType line) = line
mat_line (BusTwice line) = line
mat_line (UnknownBus line) = line
mat_line (TooMany line) = line
mat_line (ShortRow line) = line
mat_line (BadStatus line) = line

-- what is said of a file's fault: the file, the line, and the fault's number and name
abbrev pub mat_fault : MatFault → Fault
mat_fault fault =
    record { part = codes "matpower"; place = mat_line fault; code = mat_code fault; name = mat_name fault }

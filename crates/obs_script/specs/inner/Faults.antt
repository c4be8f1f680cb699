-- The names and numbers of faults.
use Rattle.std.specs.Prelude.{ℕ, List, codes}
use Rattle.obs_script.specs.declared.fault.LineFault.{LineFault}
use Rattle.obs_script.specs.declared.fault.LineFault.TheVariants.{UnknownCommand, LineTooLong, BadName, WordMissing}

-- a fault's name in bytes
abbrev pub line_fault_name : LineFault → List ℕ
line_fault_name UnknownCommand = codes "UnknownCommand"
line_fault_name LineTooLong = codes "LineTooLong"
line_fault_name BadName = codes "BadName"
line_fault_name WordMissing = codes "WordMissing"

-- a fault's number
abbrev pub line_fault_code : LineFault → ℕ
line_fault_code UnknownCommand = 1
line_fault_code LineTooLong = 2
line_fault_code BadName = 3
line_fault_code WordMissing = 4

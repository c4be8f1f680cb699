-- The names of tables and faults, the numbers of faults, and what is said of each.
use Rattle.std.specs.Prelude.{ℕ, List, codes}
use Rattle.obs_text.specs.Faults.{Fault}
use Rattle.obs_case_csv.specs.declared.faults.RowFault.{RowFault}
use Rattle.obs_case_csv.specs.declared.faults.RowFault.TheVariants.{NoHeader, ColumnMissing, ColumnTwice, ShortRow, BadName, BadFlag, BadKind, BadPrice, NameTwice, UnknownNode, UnknownPlace, TooMany}
use Rattle.obs_case_csv.specs.declared.faults.Table.{Table}
use Rattle.obs_case_csv.specs.declared.faults.Table.TheVariants.{Nodes, Switches, Branches, Meters, Candidates}
use Rattle.obs_case_csv.specs.declared.faults.TableFault.{TableFault}

-- a table's name in bytes
abbrev pub table_name : Table → List ℕ
table_name Nodes = codes "nodes"
table_name Switches = codes "switches"
table_name Branches = codes "branches"
table_name Meters = codes "meters"
table_name Candidates = codes "candidates"

-- a fault's name in bytes
abbrev pub fault_name : RowFault → List ℕ
fault_name NoHeader = codes "NoHeader"
fault_name ColumnMissing = codes "ColumnMissing"
fault_name ColumnTwice = codes "ColumnTwice"
fault_name ShortRow = codes "ShortRow"
fault_name BadName = codes "BadName"
fault_name BadFlag = codes "BadFlag"
fault_name BadKind = codes "BadKind"
fault_name BadPrice = codes "BadPrice"
fault_name NameTwice = codes "NameTwice"
fault_name UnknownNode = codes "UnknownNode"
fault_name UnknownPlace = codes "UnknownPlace"
fault_name TooMany = codes "TooMany"

-- a fault's number
abbrev pub fault_code : RowFault → ℕ
fault_code NoHeader = 1
fault_code ColumnMissing = 2
fault_code ColumnTwice = 3
fault_code ShortRow = 4
fault_code BadName = 5
fault_code BadFlag = 6
fault_code BadKind = 7
fault_code BadPrice = 8
fault_code NameTwice = 9
fault_code UnknownNode = 10
fault_code UnknownPlace = 11
fault_code TooMany = 12

-- what is said of a table's fault: the table, the row, and the fault's number and name
abbrev pub table_fault : TableFault → Fault
table_fault fault =
    record { part = table_name fault.table; place = fault.row; code = fault_code fault.code; name = fault_name fault.code }

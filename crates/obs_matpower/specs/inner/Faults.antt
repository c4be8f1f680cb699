-- What is said of a MATPOWER file that is no case.
use Rattle.std.specs.Prelude.{◌≡◌, Option, None, Some}
use Rattle.obs_text.specs.Faults.{Fault}
use Rattle.obs_text.specs.inner.Faults.{fault_of}
use Rattle.obs_text.specs.declared.faults.InputFault.{InputFault}
use Rattle.obs_case_csv.specs.Faults.{table_fault}
use Rattle.obs_matpower.specs.declared.fault.MatEnd.{MatEnd}
use Rattle.obs_matpower.specs.declared.fault.MatEnd.TheVariants as end
use Rattle.obs_matpower.specs.declared.fault.MatFault.{MatFault}
use Rattle.obs_matpower.specs.Faults.{mat_fault}

-- an input fault that says what a file's fault is
abbrev pub IsOfFile : MatFault → InputFault → Type 0
IsOfFile fault given = fault_of given ≡ mat_fault fault

-- what is said of a file with its tables that is no case: the file's fault or a table's, or nothing where memory was wanting
abbrev pub mat_end_fault : MatEnd → Option Fault
mat_end_fault (end.Mat fault) = Some (mat_fault fault)
mat_end_fault (end.Table fault) = Some (table_fault fault)
mat_end_fault end.NoMemory = None

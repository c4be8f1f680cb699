-- What is said of a table that is not read to its end.
use Rattle.std.specs.Prelude.{◌≡◌, Option, None, Some}
use Rattle.obs_text.specs.Faults.{Fault}
use Rattle.obs_text.specs.inner.Faults.{fault_of}
use Rattle.obs_text.specs.declared.faults.InputFault.{InputFault}
use Rattle.obs_case_csv.specs.declared.faults.TableEnd.{TableEnd}
use Rattle.obs_case_csv.specs.declared.faults.TableEnd.TheVariants as end
use Rattle.obs_case_csv.specs.declared.faults.TableFault.{TableFault}
use Rattle.obs_case_csv.specs.Faults.{table_fault}

-- an input fault that says what a table's fault is
abbrev pub IsOfTable : TableFault → InputFault → Type 0
IsOfTable fault given = fault_of given ≡ table_fault fault

-- what is said of a table that isn't read to its end: its fault, or nothing where memory was wanting
abbrev pub table_end_fault : TableEnd → Option Fault
table_end_fault (end.Fault fault) = Some (table_fault fault)
table_end_fault end.NoMemory = None

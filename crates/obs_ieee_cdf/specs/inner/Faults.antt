-- What is said of a file of the IEEE format that is no case.
use Rattle.std.specs.Prelude.{◌≡◌, Option, None, Some}
use Rattle.obs_text.specs.Faults.{Fault}
use Rattle.obs_text.specs.inner.Faults.{fault_of}
use Rattle.obs_text.specs.declared.faults.InputFault.{InputFault}
use Rattle.obs_case_csv.specs.Faults.{table_fault}
use Rattle.obs_ieee_cdf.specs.declared.fault.CdfEnd.{CdfEnd}
use Rattle.obs_ieee_cdf.specs.declared.fault.CdfEnd.TheVariants as end
use Rattle.obs_ieee_cdf.specs.declared.fault.CdfFault.{CdfFault}
use Rattle.obs_ieee_cdf.specs.Faults.{cdf_fault}

-- an input fault that says what a file's fault is
abbrev pub IsOfFile : CdfFault → InputFault → Type 0
IsOfFile fault given = fault_of given ≡ cdf_fault fault

-- what is said of a file with its tables that is no case: the file's fault or a table's, or nothing where memory was wanting
abbrev pub cdf_end_fault : CdfEnd → Option Fault
cdf_end_fault (end.Cdf fault) = Some (cdf_fault fault)
cdf_end_fault (end.Table fault) = Some (table_fault fault)
cdf_end_fault end.NoMemory = None

-- What the ends of parts of the work are called where the whole ends.
use Rattle.std.specs.Prelude.{◌≡◌}
use Rattle.obs_case_csv.specs.declared.faults.TableEnd.{TableEnd}
use Rattle.obs_case_csv.specs.declared.faults.TableEnd.TheVariants as table
use Rattle.obs_ieee_cdf.specs.declared.fault.CdfEnd.{CdfEnd}
use Rattle.obs_ieee_cdf.specs.declared.fault.CdfEnd.TheVariants.{Cdf, Table, NoMemory}
use Rattle.obs_ieee_cdf.specs.declared.stop.Stop.{Stop}
use Rattle.obs_ieee_cdf.specs.declared.stop.Stop.TheVariants as stop

-- the end that a stop in the file is
abbrev pub IsEndOfStop : Stop → CdfEnd → Type 0
IsEndOfStop (stop.Fault fault) end = end ≡ Cdf fault
IsEndOfStop stop.NoMemory end = end ≡ NoMemory

-- the end that a table's end is
abbrev pub IsEndOfTable : TableEnd → CdfEnd → Type 0
IsEndOfTable (table.Fault fault) end = end ≡ Table fault
IsEndOfTable table.NoMemory end = end ≡ NoMemory

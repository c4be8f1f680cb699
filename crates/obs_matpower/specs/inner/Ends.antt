-- What the ends of parts of the work are called where the whole ends.
use Rattle.std.specs.Prelude.{◌≡◌}
use Rattle.obs_case_csv.specs.declared.faults.TableEnd.{TableEnd}
use Rattle.obs_case_csv.specs.declared.faults.TableEnd.TheVariants as table
use Rattle.obs_matpower.specs.declared.fault.MatEnd.{MatEnd}
use Rattle.obs_matpower.specs.declared.fault.MatEnd.TheVariants.{Mat, Table, NoMemory}
use Rattle.obs_matpower.specs.declared.stop.Stop.{Stop}
use Rattle.obs_matpower.specs.declared.stop.Stop.TheVariants as stop

-- the end that a stop in the file is
abbrev pub IsEndOfStop : Stop → MatEnd → Type 0
IsEndOfStop (stop.Fault fault) end = end ≡ Mat fault
IsEndOfStop stop.NoMemory end = end ≡ NoMemory

-- the end that a table's end is
abbrev pub IsEndOfTable : TableEnd → MatEnd → Type 0
IsEndOfTable (table.Fault fault) end = end ≡ Table fault
IsEndOfTable table.NoMemory end = end ≡ NoMemory

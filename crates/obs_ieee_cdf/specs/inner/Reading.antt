-- What reading one line, or the lines of a section, answers and leaves.
use Rattle.std.specs.Prelude.{◌≡◌, List, Result, Ok, Err}
use Rattle.obs_case.specs.Tables.{Tables}
use Rattle.obs_case.specs.declared.table.AddFault.{AddFault}
use Rattle.obs_case.specs.declared.table.AddFault.TheVariants as add
use Rattle.obs_bus_branch.specs.Buses.{Bus}
use Rattle.obs_bus_branch.specs.inner.Buses.{AreBusesBelow}
use Rattle.obs_ieee_cdf.specs.declared.fault.CdfFault.{CdfFault}
use Rattle.obs_ieee_cdf.specs.declared.stop.Stop.{Stop}
use Rattle.obs_ieee_cdf.specs.declared.stop.Stop.TheVariants.{Fault, NoMemory}

-- what is stated was read and stands in the tables, or the stated fault was met; memory may be wanting at any point
abbrev pub Answers : {A : Type 0} → Result A CdfFault → (A → Tables) → Tables → Result (Unit {0}) Stop → Type 0
Answers {A} stated tables after (Ok done) = (rows : A) × (stated ≡ Ok rows) × (after ≡ tables rows)
Answers stated tables after (Err (Fault fault)) = stated ≡ Err fault
Answers stated tables after (Err NoMemory) = Unit {0}

-- buses with numbers of at most four digits, no two of which are equal
abbrev pub AreBuses : List Bus → Type 0
AreBuses buses = AreBusesBelow 10000 buses

-- why reading stops at a row that a case refuses for this cause
abbrev pub stop_of : AddFault → CdfFault → Stop
stop_of add.NoMemory cause = NoMemory
stop_of add.NameTwice cause = Fault cause
stop_of add.UnknownNode cause = Fault cause
stop_of add.UnknownPlace cause = Fault cause
stop_of add.TooMany cause = Fault cause

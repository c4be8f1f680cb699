-- The case that a file with its tables is, or the first fault.
use Rattle.std.specs.Prelude.{List, ℕ, Option, Result, Ok, Err}
use Rattle.obs_case.specs.Tables.{Tables}
use Rattle.obs_case_csv.specs.declared.faults.TableFault.{TableFault}
use Rattle.obs_case_csv.specs.Read.{tables_after}
use Rattle.obs_ieee_cdf.specs.declared.fault.CdfEnd.{CdfEnd}
use Rattle.obs_ieee_cdf.specs.declared.fault.CdfEnd.TheVariants.{Cdf, Table}
use Rattle.obs_ieee_cdf.specs.declared.fault.CdfFault.{CdfFault}
use Rattle.obs_ieee_cdf.specs.Rows.{cdf_within}

-- the same answer, with a table's fault as an end
abbrev pub as_end : Result Tables TableFault → Result Tables CdfEnd
as_end (Ok tables) = Ok tables
as_end (Err fault) = Err (Table fault)

-- the tables read after the nodes and branches of a file
abbrev pub with_tables : List ℕ → Option (List ℕ) → Result Tables CdfFault → Result Tables CdfEnd
with_tables meters candidates (Err fault) = Err (Cdf fault)
with_tables meters candidates (Ok tables) = as_end (tables_after meters candidates tables)

-- the case that the bytes are, where a table may have at most so many rows, or the first fault: those of the file come before those of
-- the tables
abbrev pub case_within : ℕ → List ℕ → List ℕ → Option (List ℕ) → Result Tables CdfEnd
case_within most cdf meters candidates = with_tables meters candidates (cdf_within most cdf)

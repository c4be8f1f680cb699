-- The rows of a file of the IEEE format under the usual limit.
use Rattle.std.specs.Prelude.{ℕ, List, Result}
use Rattle.obs_case.specs.Tables.{Tables, usual_rows}
use Rattle.obs_ieee_cdf.specs.declared.fault.CdfFault.{CdfFault}
use Rattle.obs_ieee_cdf.specs.Rows.{cdf_within}

-- the nodes and branches that a file's bytes are, or the first fault, under the usual limit
abbrev pub cdf_of : List ℕ → Result Tables CdfFault
cdf_of bytes = cdf_within usual_rows bytes

-- A case that is empty.
use Rattle.obs_case.specs.Tables.{Tables, usual_rows, no_rows_within}

-- five tables without rows, under the usual limit
abbrev pub no_rows : Tables
no_rows = no_rows_within usual_rows

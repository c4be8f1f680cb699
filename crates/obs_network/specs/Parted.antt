-- A case with one of its branches out of service.
use Rattle.std.specs.Prelude.{ℕ, false}
use Rattle.obs_case.specs.Flags.{with_branch_inservice}
use Rattle.obs_case.specs.Tables.{Tables}

-- the outage case of a branch: the tables with that branch out of service
abbrev pub outage_case : Tables → ℕ → Tables
outage_case t at = with_branch_inservice t at false

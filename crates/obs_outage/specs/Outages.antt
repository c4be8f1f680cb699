-- What becomes of a case where one branch goes out of service.
use Rattle.std.specs.Prelude.{ℕ, Bool, is_some, None, List, filter, length, map, slice_index_or}
use Rattle.std.specs.List.{range_with_len}
use Rattle.obs_case.specs.Tables.{Tables}
use Rattle.obs_network.specs.Network.{case_branches, case_needed}
use Rattle.obs_network.specs.Observable.{case_rank}
use Rattle.obs_network.specs.Parted.{outage_case}
use Rattle.obs_outage.specs.declared.outages.Outage.{Outage}

-- whether a row of the branch table is live and lies in an energised component
abbrev pub is_outage_row : Tables → ℕ → Bool
is_outage_row t e = is_some (slice_index_or (case_branches t) e None)

-- the live rows of the branch table in energised components, in order
unfoldable pub outage_rows : Tables → List ℕ
outage_rows t = filter (is_outage_row t) (range_with_len 0 (length t.branches))

-- a row with the rank and the needed number of its outage case
abbrev pub outage_of : Tables → ℕ → Outage
outage_of t e = record { branch = e; rank = case_rank (outage_case t e); needed = case_needed (outage_case t e) }

-- the outage list of a case
unfoldable pub outages_of : Tables → List Outage
outages_of t = map (outage_of t) (outage_rows t)

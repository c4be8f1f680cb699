-- The losses of a branch, of two meters and of a station in worked cases.
use Rattle.std.specs.Prelude.{◌≡◌, [], ◌∷◌}
use Rattle.obs_files.specs.declared.status.Status.TheVariants.{Done, Short}
use Rattle.obs_station.specs.Stations.{case_stations}
use Rattle.obs_engine.specs.OutageReply.{outages_reply}
use Rattle.obs_engine.specs.PairReply.{case_classes, pairs_reply}
use Rattle.obs_engine.specs.StationReply.{stations_reply}
use Rattle.obs_worked.specs.inner.Cases.{either_way, open_station, parallel, row_of_four, three_flows, triangle, two_classes}
use Rattle.obs_worked.specs.inner.Reports.{IsPrinted}

-- what is left when each branch trips
abbrev pub OutagesArePrinted : Type 0
OutagesArePrinted =
    IsPrinted (outages_reply triangle) Short ("outage L1 1 2 short" ∷ "outage L2 2 2 observable" ∷ "outage L3 1 2 short" ∷ "end" ∷ [])
    × IsPrinted (outages_reply parallel) Done ("outage L1 1 1 observable" ∷ "outage L2 1 1 observable" ∷ "end" ∷ [])

-- in a row the part behind the branch has no source any more; the status is that of the case, which falls short
abbrev pub OutagesOfRowOfFour : Type 0
OutagesOfRowOfFour =
    IsPrinted (outages_reply row_of_four) Short ("outage L1 0 0 observable" ∷ "outage L2 1 1 observable" ∷ "outage L3 2 2 observable" ∷ "end" ∷ [])

-- the class of each meter by its first one, and what is printed of those with a partner
abbrev pub ClassesArePrinted : Type 0
ClassesArePrinted =
    (case_classes row_of_four ≡ 0 ∷ 0 ∷ 2 ∷ [])
    × IsPrinted (pairs_reply row_of_four) Short ("class f1 f1" ∷ "class f1 f2" ∷ "end" ∷ [])
    × (case_classes two_classes ≡ 0 ∷ 1 ∷ 0 ∷ 1 ∷ [])
    × IsPrinted (pairs_reply two_classes) Done ("class f1 f1" ∷ "class f2 f2" ∷ "class f1 g1" ∷ "class f2 g2" ∷ "end" ∷ [])
    × IsPrinted (pairs_reply three_flows) Done ("end" ∷ [])

-- the station of each node, and what is left when all meters of one are lost
abbrev pub StationsArePrinted : Type 0
StationsArePrinted =
    (case_stations open_station ≡ 0 ∷ 0 ∷ [])
    × IsPrinted (stations_reply open_station) Short ("station a 2 0 1 short" ∷ "end" ∷ [])
    × IsPrinted (stations_reply row_of_four) Short ("station a 2 1 3 short" ∷ "station b 1 1 3 short" ∷ "end" ∷ [])
    × IsPrinted (stations_reply either_way) Done ("station a 1 1 1 observable" ∷ "station b 1 1 1 observable" ∷ "end" ∷ [])

-- What is printed of the stations of a case: what the loss of all meters of one does.
use Rattle.std.specs.Prelude.{ℕ, ◌==◌, Bool, List, [], ◌∷◌, ◌++◌, codes, decimal, if◌then◌else◌}
use Rattle.std.specs.List.{flat_map, list_all}
use Rattle.obs_case.specs.Tables.{Tables}
use Rattle.obs_network.specs.Network.{case_needed}
use Rattle.obs_report.specs.Counts.{verdict_word}
use Rattle.obs_report.specs.Lines.{last_line, line_of}
use Rattle.obs_report.specs.Nodes.{node_name}
use Rattle.obs_station.specs.declared.losses.Loss.{Loss}
use Rattle.obs_station.specs.Stations.{losses_of}
use Rattle.obs_files.specs.declared.status.Status.{Status}
use Rattle.obs_files.specs.declared.status.Status.TheVariants.{Short}
use Rattle.obs_engine.specs.Asks.{report_status}
use Rattle.obs_engine.specs.Replies.{Reply}

-- the line of an entry, where this number is needed: the first node of the station, how many live meters it has, the rank without
-- them, the needed number and the verdict
abbrev pub loss_line : Tables → ℕ → Loss → List ℕ
loss_line t needed l =
    line_of (codes "station" ∷ node_name t l.node ∷ decimal l.lost ∷ decimal l.rank ∷ decimal needed ∷ verdict_word l.rank needed ∷ [])

-- a line for each of some entries, and the last line
abbrev pub losses_text : Tables → ℕ → List Loss → List ℕ
losses_text t needed entries = flat_map (loss_line t needed) entries ++ last_line

-- whether there are as many pairs as needed after a loss
abbrev pub is_borne : ℕ → Loss → Bool
is_borne needed l = l.rank == needed

-- whether there are after each
abbrev pub are_borne : ℕ → List Loss → Bool
are_borne needed entries = list_all (is_borne needed) entries

-- done where the case has as many pairs as it needs, and has after each loss
unfoldable pub stations_status : Tables → Status
stations_status t = if are_borne (case_needed t) (losses_of t) then report_status t else Short

-- the reply to a case
abbrev pub stations_reply : Tables → Reply
stations_reply t = record { status = stations_status t; text = losses_text t (case_needed t) (losses_of t) }

-- What is printed of the outages of a case: what becomes of it where one branch goes out of service.
use Rattle.std.specs.Prelude.{ℕ, ◌==◌, Bool, List, [], ◌∷◌, ◌++◌, codes, decimal, if◌then◌else◌}
use Rattle.std.specs.List.{flat_map, list_all}
use Rattle.obs_case.specs.Tables.{Tables}
use Rattle.obs_outage.specs.declared.outages.Outage.{Outage}
use Rattle.obs_outage.specs.Outages.{outages_of}
use Rattle.obs_report.specs.Counts.{verdict_word}
use Rattle.obs_report.specs.Items.{branch_name}
use Rattle.obs_report.specs.Lines.{last_line, line_of}
use Rattle.obs_files.specs.declared.status.Status.{Status}
use Rattle.obs_files.specs.declared.status.Status.TheVariants.{Short}
use Rattle.obs_engine.specs.Asks.{report_status}
use Rattle.obs_engine.specs.Replies.{Reply}

-- the line of an entry: its branch, the rank and the needed number of its outage case, and the verdict on these
abbrev pub outage_line : Tables → Outage → List ℕ
outage_line t o = line_of (codes "outage" ∷ branch_name t o.branch ∷ decimal o.rank ∷ decimal o.needed ∷ verdict_word o.rank o.needed ∷ [])

-- a line for each of some entries, and the last line
abbrev pub outages_text : Tables → List Outage → List ℕ
outages_text t entries = flat_map (outage_line t) entries ++ last_line

-- whether an outage case has as many pairs as it needs
abbrev pub is_met : Outage → Bool
is_met o = o.rank == o.needed

-- whether each entry has
abbrev pub are_met : List Outage → Bool
are_met entries = list_all is_met entries

-- done where the case and each outage case have as many pairs as they need
unfoldable pub outages_status : Tables → Status
outages_status t = if are_met (outages_of t) then report_status t else Short

-- the reply to a case
abbrev pub outages_reply : Tables → Reply
outages_reply t = record { status = outages_status t; text = outages_text t (outages_of t) }

-- What a trial says of a case: how many islands it has, and what losing and regaining each of its meters comes to.
use Rattle.std.specs.Prelude.{ℕ, ◌≡◌, ◌≤◌, ◌*◌, ◌==◌, ◌&&◌, Bool, false, nat_lt, List, ◌++◌, length, filter, slice_index}
use Rattle.std.specs.List.{range_with_len}
use Rattle.obs_case.specs.Tables.{Tables}
use Rattle.obs_network.specs.Network.{network_of}
use Rattle.obs_network.specs.Switched.{case_bus_count}
use Rattle.obs_report.specs.Counts.{counts_text}
use Rattle.obs_report.specs.Islands.{is_energised_bus}
use Rattle.obs_report.specs.Totals.{totals_text, trial_line}
use Rattle.obs_repair.specs.declared.edit.Edit.TheVariants.{Meter}
use Rattle.obs_edit.specs.Answers.{case_islands}
use Rattle.obs_network.specs.Observable.{case_rank}
use Rattle.obs_repair.specs.Edits.{edited}
use Rattle.obs_engine.specs.Asks.{report_status}
use Rattle.obs_engine.specs.Replies.{Reply}

-- whether a bus is energised and the first bus of its island
abbrev pub is_first_of_island : Tables → ℕ → Bool
is_first_of_island t bus = is_energised_bus t bus && (slice_index (case_islands t) bus == bus)

-- how many islands the energised buses of a case have
unfoldable pub island_count : Tables → ℕ
island_count t = length (filter (is_first_of_island t) (range_with_len 0 (case_bus_count t)))

-- whether the rank is lower than at first where a meter is lost
abbrev pub is_dip : Tables → ℕ → Bool
is_dip t m = nat_lt (case_rank (edited t (Meter m false))) (case_rank t)

-- the meters after whose loss it is
unfoldable pub dip_meters : Tables → List ℕ
dip_meters t = filter (is_dip t) (range_with_len 0 (length t.meters))

-- how many they are
abbrev pub dips_of : Tables → ℕ
dips_of t = length (dip_meters t)

-- the edits that lose and regain each meter
abbrev pub edits_of : Tables → ℕ
edits_of t = 2 * length t.meters

-- the text on the case of so many rows and this seed, where the edits took so many searches
unfoldable pub trial_text : ℕ → ℕ → Tables → ℕ → List ℕ
trial_text rows seed t searches =
    trial_line rows seed
    ++ (counts_text (network_of t) (case_rank t)
    ++ totals_text (island_count t) (dips_of t) (edits_of t) searches)

-- the reply where the edits took so many searches
abbrev pub trial_reply : ℕ → ℕ → Tables → ℕ → Reply
trial_reply rows seed t searches = record { status = report_status t; text = trial_text rows seed t searches }

-- a reply to a trial: the number of searches is the one number that the case doesn't determine
abbrev pub IsTrialReply : ℕ → ℕ → Tables → Reply → Type 0
IsTrialReply rows seed t reply =
    (searches : ℕ) × (dips_of t ≤ searches) × (searches ≤ edits_of t) × (reply ≡ trial_reply rows seed t searches)

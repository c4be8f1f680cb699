-- The summary of a case: how many buses it has, how many of them are energised, and at how many more than one live injection or zero
-- stands. And which answers have one.
use Rattle.std.specs.Prelude.{ℕ, ◌≡◌, ◌⊎◌, ◌+◌, ◌==◌, ◌&&◌, Bool, true, false, nat_lt, Option, None, Some, Ok, List, count_by, length, map, slice_index, slice_index_or}
use Rattle.std.specs.List.{range_with_len}
use Rattle.obs_case.specs.declared.rows.Kind.{Kind}
use Rattle.obs_case.specs.declared.rows.Kind.TheVariants.{Flow, Injection, Zero, Angle}
use Rattle.obs_case.specs.declared.rows.Meter.{Meter}
use Rattle.obs_case.specs.Tables.{Tables}
use Rattle.obs_network.specs.Network.{network_of}
use Rattle.obs_network.specs.Observable.{case_live_meters}
use Rattle.obs_network.specs.Switched.{case_bus_count, case_buses}
use Rattle.obs_report.specs.Counts.{energised_buses}
use Rattle.obs_io.specs.Bytes.{Wrote, WrotePart}
use Rattle.obs_notice.specs.declared.summary.Summary.{Summary}
use Rattle.obs_notice.specs.Notices.{notice}
use Rattle.obs_files.specs.declared.status.Status.{Status}
use Rattle.obs_files.specs.declared.status.Status.TheVariants.{Done, Short}
use Rattle.obs_files.specs.declared.words.CaseCommand.TheVariants.{Report, Place, Study}
use Rattle.obs_files.specs.declared.words.Form.{Form}
use Rattle.obs_files.specs.declared.words.Form.TheVariants.{Case}
use Rattle.obs_files.specs.Files.{case_in_files}
use Rattle.obs_files.specs.Limits.{Limits}
use Rattle.obs_files.specs.Outside.{AreFiles}
use Rattle.obs_files.specs.Words.{form_of}

-- whether this is the kind of an injection or a zero
abbrev pub is_injection_kind : Kind → Bool
is_injection_kind Flow = false
is_injection_kind Injection = true
is_injection_kind Zero = true
is_injection_kind Angle = false

-- whether a meter is an injection or a zero
abbrev pub is_injection : Tables → ℕ → Bool
is_injection t m = slice_index_or (map (λ (row : Meter). is_injection_kind row.kind) t.meters) m false

-- the bus at which an injection or a zero stands: that of its node
abbrev pub injection_bus : Tables → ℕ → ℕ
injection_bus t m = slice_index (case_buses t) (slice_index (map (λ (row : Meter). row.at) t.meters) m)

-- whether a meter is an injection or a zero at a bus
abbrev pub is_injection_at : Tables → ℕ → ℕ → Bool
is_injection_at t bus m = is_injection t m && (injection_bus t m == bus)

-- how many live injections and zeros stand at a bus
abbrev pub injection_count : Tables → ℕ → ℕ
injection_count t bus = count_by (is_injection_at t bus) (case_live_meters t)

-- at how many buses more than one stands
unfoldable pub crowded_buses : Tables → ℕ
crowded_buses t = count_by (λ bus. nat_lt 1 (injection_count t bus)) (range_with_len 0 (case_bus_count t))

-- the summary of a case
abbrev pub summary_of : Tables → Summary
summary_of t = record { buses = case_bus_count t; energised = energised_buses (network_of t); crowded = crowded_buses t }

-- the summary that goes with the answer to a case: of a report, a placement and a study, and of nothing else
abbrev pub form_summary : Form → Tables → Option Summary
form_summary (Case Report from) t = Some (summary_of t)
form_summary (Case Place from) t = Some (summary_of t)
form_summary (Case (Study study) from) t = Some (summary_of t)
form_summary form t = None

-- the answer is whole, and says whether the case has what it needs
abbrev pub IsWholeAnswer : Status → Type 0
IsWholeAnswer status = (status ≡ Done) ⊎ (status ≡ Short)

-- the files of a form are this case, where their contents are told, and this is the summary that goes with the answer to it
pub record SummedAt (limits : Limits) (form : Form) (content : ℕ → Option (List ℕ)) (summary : Option Summary) : Type 0 where
  pub case : Tables
  pub read : (file : ℕ → List ℕ) → AreFiles limits (Some form) content file → case_in_files limits form file ≡ Ok case
  pub is : summary ≡ form_summary form case

-- the same of words, which have no summary where they have no form
abbrev pub IsSummed : Limits → Option Form → (ℕ → Option (List ℕ)) → Option Summary → Type 0
IsSummed limits None content summary = summary ≡ None
IsSummed limits (Some form) content summary = SummedAt limits form content summary

-- of a run that ended with this status a front of the notice was said, and all of it where there is room for it. Of a whole answer that is what
-- the summary says which goes with it; the word is that of the file of which a read failed
pub record IsSaid
    (limits : Limits) (words : List (List ℕ)) (content : ℕ → Option (List ℕ)) (status : Status) (failed : Option ℕ)
    (before now : Option (List ℕ)) (has_room : ℕ → Type 0) : Type 0 where
  pub summary : Option Summary
  pub summed : IsWholeAnswer status → IsSummed limits (form_of words) content summary
  pub part : WrotePart before now (notice limits words status failed summary)
  pub whole : (rest : ℕ) → has_room (length (notice limits words status failed summary) + rest)
      → Wrote before now (notice limits words status failed summary)

-- What is printed of the meters of a case that are critical together.
use Rattle.std.specs.Prelude.{ℕ, List, [], ◌∷◌, ◌++◌, codes, filter, length, slice_index}
use Rattle.std.specs.List.{flat_map, range_with_len}
use Rattle.obs_case.specs.Tables.{Tables}
use Rattle.obs_network.specs.Network.{case_branches, case_meters, case_vertex_count}
use Rattle.obs_pairs.specs.PairWork.{has_another}
use Rattle.obs_pairs.specs.Partners.{classes_of}
use Rattle.obs_report.specs.Items.{meter_name}
use Rattle.obs_report.specs.Lines.{last_line, line_of}
use Rattle.obs_engine.specs.Asks.{report_status}
use Rattle.obs_engine.specs.Replies.{Reply}

-- the class of each meter, by its first meter
abbrev pub case_classes : Tables → List ℕ
case_classes t = classes_of (case_vertex_count t) (case_branches t) (case_meters t)

-- the line of a meter whose class is this one
abbrev pub class_line : Tables → ℕ → ℕ → List ℕ
class_line t class m = line_of (codes "class" ∷ meter_name t class ∷ meter_name t m ∷ [])

-- a line for each of some meters that has a partner, where these are the classes
abbrev pub class_lines : Tables → List ℕ → List ℕ → List ℕ
class_lines t classes meters = flat_map (λ m. class_line t (slice_index classes m) m) (filter (has_another classes) meters)

-- a line for each meter with a partner, in the order of the meters, and the last line
abbrev pub classes_text : Tables → List ℕ → List ℕ
classes_text t classes = class_lines t classes (range_with_len 0 (length t.meters)) ++ last_line

-- the reply to a case, with the status of a report
abbrev pub pairs_reply : Tables → Reply
pairs_reply t = record { status = report_status t; text = classes_text t (case_classes t) }

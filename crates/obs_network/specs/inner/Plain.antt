-- Cases without absolute nodes, and what is left of a case without its angle items.
use Rattle.std.specs.Prelude.{ℕ, ◌≡◌, All, false, not, List, filter, map}
use Rattle.std.specs.List.{range_with_len}
use Rattle.obs_case.specs.declared.rows.Candidate.{Candidate}
use Rattle.obs_case.specs.declared.rows.Meter.{Meter}
use Rattle.obs_case.specs.declared.rows.Node.{Node}
use Rattle.obs_case.specs.Items.{is_angle, is_angle_kind}
use Rattle.obs_case.specs.Tables.{Tables}
use Rattle.obs_meter.specs.Touches.{touch_at}
use Rattle.obs_network.specs.Network.{case_branches, case_item_count, case_offered}

-- no node is marked absolute
abbrev pub HasNoAbsolute : Tables → Type 0
HasNoAbsolute t = All (λ (row : Node). row.absolute ≡ false) t.nodes

-- the tables without the meters and candidates that are angle items
abbrev pub without_angles : Tables → Tables
without_angles t = record t {
  meters = filter (λ (row : Meter). not (is_angle_kind row.kind)) t.meters;
  candidates = filter (λ (row : Candidate). not (is_angle_kind row.kind)) t.candidates;
}

-- what each item touches, in the order of the items
abbrev pub touches_in_order : Tables → List (List ℕ)
touches_in_order t = map (touch_at (case_branches t) (case_offered t)) (range_with_len 0 (case_item_count t))

-- the same for the items that are no angle items
abbrev pub other_touches_in_order : Tables → List (List ℕ)
other_touches_in_order t =
    map (touch_at (case_branches t) (case_offered t)) (filter (λ m. not (is_angle t m)) (range_with_len 0 (case_item_count t)))

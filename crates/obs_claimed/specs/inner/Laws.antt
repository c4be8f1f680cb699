-- What is printed is read back as claims, these hold, and its length is bounded by the rows that a table may have.
use Rattle.std.specs.Prelude.{◌≡◌, ℕ, ◌+◌, ◌*◌, ◌<◌, ◌≤◌, true, List, [], ◌∷◌, ◌++◌, length, map, Some}
use Rattle.std.specs.List.{range_with_len, sum_by}
use Rattle.obs_text.specs.Lines.{lines_of}
use Rattle.obs_case.specs.Tables.{IsValid, Tables}
use Rattle.obs_network.specs.Network.{case_component_count}
use Rattle.obs_network.specs.Observable.{IsObservable, is_energised_component}
use Rattle.obs_cert.specs.inner.Certificate.{claim_lines}
use Rattle.obs_cert.specs.Claims.{tree, bound}
use Rattle.obs_cert.specs.Flaws.{Holds}
use Rattle.obs_cert.specs.Words.{Line, claim_line, end_line}
use Rattle.obs_report.specs.Lines.{last_line}
use Rattle.obs_report.specs.Meters.{bound_text}
use Rattle.obs_report.specs.Placements.{placement_text}
use Rattle.obs_report.specs.Trees.{tree_text}
use Rattle.obs_repair.specs.Bounds.{bound_meters, bound_outside, bound_rank}
use Rattle.obs_edit.specs.Answers.{case_first_pairs}
use Rattle.obs_edit.specs.Planned.{case_placed_pairs, case_placement}
use Rattle.obs_claimed.specs.Claimed.{component_bound, component_tree, placement_claim}

-- the tree of an energised component that is observable is a claim that holds
abbrev pub TreesHold : Type 0
TreesHold = (t : Tables) (c : ℕ) → IsValid t → c < case_component_count t → is_energised_component t c ≡ true → IsObservable t c →
    Holds t (tree (component_tree t c))

-- the bound of one that isn't is a claim that holds
abbrev pub BoundsHold : Type 0
BoundsHold = (t : Tables) (c : ℕ) → IsValid t → c < case_component_count t → is_energised_component t c ≡ true → (IsObservable t c → ⊥) →
    Holds t (bound (component_bound t c))

-- and so is the placement
abbrev pub PlacementsHold : Type 0
PlacementsHold = (t : Tables) → IsValid t → Holds t (placement_claim t (case_placement t) (case_placed_pairs t))

-- bytes are these lines of a certificate, whatever stands behind them
abbrev pub AreLines : List ℕ → List Line → Type 0
AreLines bytes lines = (rest : List ℕ) →
    map claim_line (lines_of (bytes ++ rest)) ≡ map Some lines ++ map claim_line (lines_of rest)

-- a printed tree is the lines of its claim
abbrev pub TreesAreLines : Type 0
TreesAreLines = (t : Tables) (c : ℕ) → IsValid t → c < case_component_count t →
    AreLines (tree_text t c (case_first_pairs t)) (claim_lines (tree (component_tree t c)))

-- and so is a printed bound
abbrev pub BoundsAreLines : Type 0
BoundsAreLines = (t : Tables) (c : ℕ) → IsValid t → c < case_component_count t →
    AreLines (bound_text t c (bound_meters t c) (bound_rank t c) (bound_outside t c)) (claim_lines (bound (component_bound t c)))

-- a placement
abbrev pub PlacementsAreLines : Type 0
PlacementsAreLines = (t : Tables) → IsValid t →
    AreLines (placement_text t (case_placement t) (case_placed_pairs t)) (claim_lines (placement_claim t (case_placement t) (case_placed_pairs t)))

-- and the last line
abbrev pub LastIsLine : Type 0
LastIsLine = AreLines last_line (end_line ∷ [])

-- the printed trees and bounds of all components, and the last line, have together at most 616 bytes for each row that a table may have,
-- and 30 more
abbrev pub TreesAndBoundsFit : Type 0
TreesAndBoundsFit = (t : Tables) → IsValid t →
    sum_by (λ c. length (tree_text t c (case_first_pairs t)) + length (bound_text t c (bound_meters t c) (bound_rank t c) (bound_outside t c)))
    (range_with_len 0 (case_component_count t)) + length last_line ≤ 616 * t.most + 30

-- and so is the placement with the last line
abbrev pub PlacementsFit : Type 0
PlacementsFit = (t : Tables) → IsValid t →
    length (placement_text t (case_placement t) (case_placed_pairs t)) + length last_line ≤ 616 * t.most + 30

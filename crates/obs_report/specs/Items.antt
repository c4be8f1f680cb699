-- The lines of items: the meters of a case and then its candidates, so that a meter is the item of its number.
use Rattle.std.specs.Prelude.{ℕ, ◌-◌, List, [], ◌∷◌, codes, if◌then◌else◌, length, slice_index_or}
use Rattle.obs_case.specs.Items.{is_angle}
use Rattle.obs_case.specs.Tables.{Tables, branch_names, candidate_names, meter_names}
use Rattle.obs_matroid.specs.Assignments.{Pair}
use Rattle.obs_network.specs.Network.{is_meter}
use Rattle.obs_report.specs.Lines.{line_of}

-- the name of the meter at a position
abbrev pub meter_name : Tables → ℕ → List ℕ
meter_name t m = slice_index_or (meter_names t) m []

-- the name of the candidate at a position
abbrev pub candidate_name : Tables → ℕ → List ℕ
candidate_name t k = slice_index_or (candidate_names t) k []

-- the name of the branch at a position
abbrev pub branch_name : Tables → ℕ → List ℕ
branch_name t e = slice_index_or (branch_names t) e []

-- the word of an item, and its name
abbrev pub item_word : Tables → ℕ → List ℕ
item_word t m = if is_meter t m then codes "meter" else codes "candidate"

abbrev pub item_name : Tables → ℕ → List ℕ
item_name t m = if is_meter t m then meter_name t m else candidate_name t (m - length t.meters)

-- an item that is inside a list
abbrev pub inside_line : Tables → ℕ → List ℕ
inside_line t m = line_of (codes "inside" ∷ item_word t m ∷ item_name t m ∷ [])

-- the word for the branch of an item's pair: `angle` for an angle item, else the branch's name
abbrev pub branch_word : Tables → ℕ → ℕ → List ℕ
branch_word t m e = if is_angle t m then codes "angle" else branch_name t e

-- an item and the branch that it is given
abbrev pub pair_line : Tables → Pair → List ℕ
pair_line t p = line_of (codes "pair" ∷ item_word t p.0 ∷ item_name t p.0 ∷ branch_word t p.0 p.1 ∷ [])

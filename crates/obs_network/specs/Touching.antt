-- What the items of a case touch: its meters and then its candidates. `rows` has the ends of the rows of the branch table by
-- position, of those that are live and lie in energised components, and `buses` the bus of each node.
use Rattle.std.specs.Prelude.{ℕ, suc, ◌+◌, if◌then◌else◌, Option, List, [], ◌∷◌, ◌++◌, length, slice_index}
use Rattle.obs_graph.specs.declared.Ends.{Ends}
use Rattle.obs_graph.specs.Positions.{branches_at}
use Rattle.obs_case.specs.declared.rows.Candidate.{Candidate}
use Rattle.obs_case.specs.declared.rows.Kind.{Kind}
use Rattle.obs_case.specs.declared.rows.Kind.TheVariants.{Flow, Injection, Zero, Angle}
use Rattle.obs_case.specs.declared.rows.Meter.{Meter}
use Rattle.obs_meter.specs.declared.Touch.{Touch}
use Rattle.obs_meter.specs.declared.Touch.TheVariants.{Nothing, Edge, Front}

-- the rows at a bus: the first of the branches there
abbrev pub rows_at : List (Option Ends) → ℕ → Touch
rows_at rows bus = Front bus (length (branches_at rows bus))

-- an item by its number: a flow touches its branch, an injection or a zero the rows at the bus of its node, and an angle its
-- angle branch, which stands behind the rows
abbrev pub touch_of : List (Option Ends) → List ℕ → ℕ → Kind → ℕ → Touch
touch_of rows buses m Flow at = Edge at
touch_of rows buses m Injection at = rows_at rows (slice_index buses at)
touch_of rows buses m Zero at = rows_at rows (slice_index buses at)
touch_of rows buses m Angle at = Edge (length rows + m)

-- a meter out of service touches nothing
abbrev pub meter_touch : List (Option Ends) → List ℕ → ℕ → Meter → Touch
meter_touch rows buses m row = if row.inservice then touch_of rows buses m row.kind row.at else Nothing

-- a candidate counts as in service
abbrev pub candidate_touch : List (Option Ends) → List ℕ → ℕ → Candidate → Touch
candidate_touch rows buses m row = touch_of rows buses m row.kind row.at

-- what each meter touches, where the first of them has this number
abbrev pub meter_touches : List (Option Ends) → List ℕ → ℕ → List Meter → List Touch
meter_touches rows buses m [] = []
meter_touches rows buses m (row ∷ meters) = meter_touch rows buses m row ∷ meter_touches rows buses (suc m) meters

-- what each candidate touches, where the first of them has this number
abbrev pub candidate_touches : List (Option Ends) → List ℕ → ℕ → List Candidate → List Touch
candidate_touches rows buses m [] = []
candidate_touches rows buses m (row ∷ candidates) =
    candidate_touch rows buses m row ∷ candidate_touches rows buses (suc m) candidates

-- what each meter and then each candidate touches
abbrev pub offered_touches : List (Option Ends) → List ℕ → List Meter → List Candidate → List Touch
offered_touches rows buses meters candidates =
    meter_touches rows buses 0 meters ++ candidate_touches rows buses (length meters) candidates

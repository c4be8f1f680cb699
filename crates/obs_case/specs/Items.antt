-- The items of a case: its meters and then its candidates, numbered in that order.
use Rattle.std.specs.Prelude.{ℕ, ◌+◌, Bool, true, false, List, ◌++◌, length, map, slice_index_or}
use Rattle.obs_case.specs.declared.rows.Candidate.{Candidate}
use Rattle.obs_case.specs.declared.rows.Kind.{Kind}
use Rattle.obs_case.specs.declared.rows.Kind.TheVariants.{Flow, Injection, Zero, Angle}
use Rattle.obs_case.specs.declared.rows.Meter.{Meter}
use Rattle.obs_case.specs.Tables.{Tables}

-- whether this is the kind of angle items
abbrev pub is_angle_kind : Kind → Bool
is_angle_kind Flow = false
is_angle_kind Injection = false
is_angle_kind Zero = false
is_angle_kind Angle = true

-- which items are angle items
abbrev pub angle_flags : Tables → List Bool
angle_flags t =
    map (λ (row : Meter). is_angle_kind row.kind) t.meters ++ map (λ (row : Candidate). is_angle_kind row.kind) t.candidates

-- whether an item is an angle item; a number behind all items is that of none
abbrev pub is_angle : Tables → ℕ → Bool
is_angle t m = slice_index_or (angle_flags t) m false

-- the position of an item's angle branch: these positions stand behind the rows of the branch table
abbrev pub angle_position : Tables → ℕ → ℕ
angle_position t m = length t.branches + m

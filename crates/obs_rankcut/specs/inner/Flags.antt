-- Flags of meters, one for each.
use Rattle.std.specs.Prelude.{ℕ, Bool, false, List, slice_index_or}

-- whether the flag of the meter is set
abbrev pub marked : List Bool → ℕ → Bool
marked flags m = slice_index_or flags m false

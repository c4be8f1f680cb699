-- Where a position stands in a flat list of parts.
use Rattle.std.specs.Prelude.{ℕ, suc, ◌+◌, ◌-◌, List, length, nat_lt, slice_index, slice_range, count_by}

-- the part of v
abbrev pub part_of : List ℕ → List ℕ → ℕ → List ℕ
part_of starts at v = slice_range at (slice_index starts v) (slice_index starts (suc v))

-- where i stands in the part of v, or would stand
abbrev pub place_of : List ℕ → List ℕ → ℕ → ℕ → ℕ
place_of starts at v i = slice_index starts v + count_by (λ p. nat_lt p i) (part_of starts at v)

-- where the last part ends
abbrev pub total_of : List ℕ → ℕ
total_of starts = slice_index starts (length starts - 1)

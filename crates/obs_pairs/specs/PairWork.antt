-- Classes of more than one meter.
use Rattle.std.specs.Prelude.{ℕ, ◌==◌, ◌&&◌, Bool, not, List, length, slice_index}
use Rattle.std.specs.List.{list_any, range_with_len}

-- whether another meter has the class that the meter has in a list
abbrev pub has_another : List ℕ → ℕ → Bool
has_another list m = list_any (λ k. not (k == m) && (slice_index list k == slice_index list m)) (range_with_len 0 (length list))

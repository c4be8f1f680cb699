-- How much may be offered.
use Rattle.std.specs.Prelude.{ℕ}

-- how many candidates there are at most
abbrev pub most_candidates : ℕ
most_candidates = 1000000

-- what a candidate costs at most
abbrev pub most_price : ℕ
most_price = 1000000000

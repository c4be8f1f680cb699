-- The version of obs: the three numbers that CITATION.cff has.
use Rattle.std.specs.Prelude.{ℕ, ◌*◌, ◌+◌}

abbrev pub major : ℕ
major = 0

abbrev pub minor : ℕ
minor = 8

abbrev pub patch : ℕ
patch = 5

-- the numbers of a version as one
abbrev pub version_number : ℕ → ℕ → ℕ → ℕ
version_number first second third = first * 1000000 + second * 1000 + third

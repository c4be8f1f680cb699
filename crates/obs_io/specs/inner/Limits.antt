-- How far a file is read.
use Rattle.std.specs.Prelude.{ℕ}

-- all files take calls up to this place of a file
abbrev pub usual_place : ℕ
usual_place = 16777216

-- the furthest place of a file that the files of this crate take
abbrev pub most_place : ℕ
most_place = 1073741824

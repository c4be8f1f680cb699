-- What readers rely on.
use Rattle.std.specs.Prelude.{ℕ}

-- the most bytes of any file that is read
abbrev pub most_file_bytes : ℕ
most_file_bytes = 1073741824

-- the most bytes of a file where no other limit is given
abbrev pub usual_file_bytes : ℕ
usual_file_bytes = 16777216

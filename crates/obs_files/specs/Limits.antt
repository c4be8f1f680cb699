-- How much files may hold.
use Rattle.std.specs.Prelude.{ℕ, ◌≤◌, ◌+◌, ◌*◌}
use Rattle.obs_text.specs.Limits.{most_file_bytes, usual_file_bytes}
use Rattle.obs_case.specs.Tables.{most_rows, usual_rows}

-- the most rows of each table that files give, and the most bytes of a file and of a session's input
pub record Limits : Type 0 where
  pub rows : ℕ
  pub bytes : ℕ

-- a case may have so many rows and a file so many bytes, and each certificate that is printed of such a case is no longer than a file
pub record IsLimits (limits : Limits) : Type 0 where
  pub few_rows : limits.rows ≤ most_rows
  pub few_bytes : limits.bytes ≤ most_file_bytes
  pub fit : 616 * limits.rows + 30 ≤ limits.bytes

-- these two numbers
abbrev pub limits_of : ℕ → ℕ → Limits
limits_of rows bytes = record { rows = rows; bytes = bytes }

-- those that hold where none are given
abbrev pub usual_limits : Limits
usual_limits = limits_of usual_rows usual_file_bytes

-- the largest
abbrev pub large_limits : Limits
large_limits = limits_of most_rows most_file_bytes

-- The line that a search finds.
use Rattle.std.specs.Prelude.{◌≡◌, ℕ, ◌+◌, ◌≤◌, Bool, true, List, length}
use Rattle.std.specs.List.{after_first, before_first, concat, list_any}
use Rattle.obs_text.specs.Lines.{ended_lines}

-- the first line of some bytes that passes a test: what stands before it and after it, and its number from 1
pub record IsFirstLine (p : List ℕ → Bool) (bytes front rest : List ℕ) (at : ℕ) : Type 0 where
  pub some : list_any p (ended_lines bytes) ≡ true
  pub before : front ≡ concat (before_first p (ended_lines bytes))
  pub after : rest ≡ concat (after_first p (ended_lines bytes))
  pub within : length rest ≤ length bytes
  pub number : at + length (after_first p (ended_lines bytes)) ≡ length (ended_lines bytes)

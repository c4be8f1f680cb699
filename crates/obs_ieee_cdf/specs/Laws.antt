-- The reading of bytes and what bytes are.
use Rattle.std.specs.Prelude.{◌≡◌, ◌≤◌, ℕ, List, Option, Ok}
use Rattle.obs_case.specs.Tables.{IsValid, Tables, most_rows}
use Rattle.obs_ieee_cdf.specs.Read.{case_within}

-- a case that is read is valid
abbrev pub CasesAreValid : Type 0
CasesAreValid =
    (most : ℕ) → most ≤ most_rows → (cdf meters : List ℕ) (candidates : Option (List ℕ)) (tables : Tables) →
    case_within most cdf meters candidates ≡ Ok tables → IsValid tables

-- and has the limit that was given
abbrev pub CasesHaveLimit : Type 0
CasesHaveLimit =
    (most : ℕ) → most ≤ most_rows → (cdf meters : List ℕ) (candidates : Option (List ℕ)) (tables : Tables) →
    case_within most cdf meters candidates ≡ Ok tables → tables.most ≡ most

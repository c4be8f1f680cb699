-- When the bytes of five tables are a case under the usual limit of rows.
use Rattle.std.specs.Prelude.{ℕ, List, Option}
use Rattle.obs_case.specs.Tables.{Tables, usual_rows}
use Rattle.obs_case_csv.specs.IsCase.{IsCaseWithin}

-- the bytes of five tables are this case, under the usual limit
abbrev pub IsCase : List ℕ → List ℕ → List ℕ → List ℕ → Option (List ℕ) → Tables → Type 0
IsCase nodes switches branches meters candidates t = IsCaseWithin usual_rows nodes switches branches meters candidates t

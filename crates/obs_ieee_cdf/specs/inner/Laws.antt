-- What reading a file of the IEEE format gives, by what its bytes are.
use Rattle.std.specs.Prelude.{◌≡◌, ◌≤◌, ℕ, List, Option, MatchResult, Ok, Err}
use Rattle.obs_case.specs.Tables.{Tables, most_rows}
use Rattle.obs_ieee_cdf.specs.declared.fault.CdfEnd.{CdfEnd}
use Rattle.obs_ieee_cdf.specs.declared.fault.CdfFault.{CdfFault}
use Rattle.obs_ieee_cdf.specs.inner.Case.{IsCase, IsFile}
use Rattle.obs_ieee_cdf.specs.inner.IsFault.{IsFault, IsNotAfter}
use Rattle.obs_ieee_cdf.specs.Read.{case_within}
use Rattle.obs_ieee_cdf.specs.Rows.{cdf_within}

-- what is read from a file are the nodes and branches that its bytes are
abbrev pub FileIsRead : Type 0
FileIsRead =
    (most : ℕ) (bytes : List ℕ) (tables : Tables) →
    (cdf_within most bytes ≡ Ok tables → IsFile most bytes tables) × (IsFile most bytes tables → cdf_within most bytes ≡ Ok tables)

-- what is read is the case that the bytes are
abbrev pub CaseIsRead : Type 0
CaseIsRead =
    (most : ℕ) → most ≤ most_rows → (cdf meters : List ℕ) (candidates : Option (List ℕ)) (tables : Tables) →
    (case_within most cdf meters candidates ≡ Ok tables → IsCase most cdf meters candidates tables)
    × (IsCase most cdf meters candidates tables → case_within most cdf meters candidates ≡ Ok tables)

-- a fault is met exactly where the bytes are no case
abbrev pub FaultWhereNoCase : Type 0
FaultWhereNoCase =
    (most : ℕ) → most ≤ most_rows → (cdf meters : List ℕ) (candidates : Option (List ℕ)) →
    ((fault : CdfEnd) → case_within most cdf meters candidates ≡ Err fault → (tables : Tables) → ¬ IsCase most cdf meters candidates tables)
    × (((tables : Tables) → ¬ IsCase most cdf meters candidates tables) → (fault : CdfEnd) × (case_within most cdf meters candidates ≡ Err fault))

-- the fault of a file that is met is one, and no fault of the file comes before it; none is met exactly where the file has none
abbrev pub FirstFaultOfFile : Type 0
FirstFaultOfFile =
    (most : ℕ) (bytes : List ℕ) →
    MatchResult (cdf_within most bytes) (λ tables. (fault : CdfFault) → IsFault most bytes fault → ⊥)
    (λ fault. IsFault most bytes fault × ((other : CdfFault) → IsFault most bytes other → IsNotAfter fault other))

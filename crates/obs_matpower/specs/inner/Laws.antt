-- Where the texts of tables stand in a MATPOWER file, and what reading it gives, by what its bytes are.
use Rattle.std.specs.Prelude.{◌≡◌, ◌≤◌, ◌++◌, ◌∷◌, [], ℕ, Bool, true, false, IsTrue, List, is_none, Option, MatchResult, Ok, Err}
use Rattle.std.specs.List.{before_first, concat, list_all, list_any}
use Rattle.obs_text.specs.Lines.{content, ended_lines}
use Rattle.obs_case.specs.Tables.{Tables, most_rows}
use Rattle.obs_matpower.specs.declared.fault.MatEnd.{MatEnd}
use Rattle.obs_matpower.specs.declared.fault.MatFault.{MatFault}
use Rattle.obs_matpower.specs.declared.part.MatTable.{MatTable}
use Rattle.obs_matpower.specs.inner.Case.{IsCase, IsFile}
use Rattle.obs_matpower.specs.inner.IsFault.{IsFault, IsNotAfter}
use Rattle.obs_matpower.specs.Lines.{closes, is_gap, opens, table_name, without_comment}
use Rattle.obs_matpower.specs.Read.{case_within, mat_within}
use Rattle.obs_matpower.specs.inner.Rows.{rows_of}
use Rattle.obs_matpower.specs.Table.{end_of, is_ended, is_there, line_of}
use Rattle.obs_matpower.specs.inner.Table.{text_of}
use Rattle.obs_matpower.specs.Whole.{table_rows}

-- what follows a text: the `]` that ends it, or nothing
abbrev pub EndsAt : Bool → List ℕ → Type 0
EndsAt true back = (rest : List ℕ) × (back ≡ 0x5D ∷ rest)
EndsAt false back = back ≡ []

-- blanks and tabs alone
abbrev pub AreGaps : List ℕ → Type 0
AreGaps bytes = IsTrue (list_all is_gap bytes)

-- the name of a table and `=`, with nothing but blanks and tabs before and behind each
abbrev pub IsAssignedTo : MatTable → List ℕ → Type 0
IsAssignedTo table bytes =
    (first between last : List ℕ) × AreGaps first × AreGaps between × AreGaps last
    × (bytes ≡ first ++ (table_name table ++ (between ++ 0x3D ∷ last)))

-- bytes that are an assignment to the table up to a `[`
abbrev pub IsOpening : MatTable → List ℕ → Type 0
IsOpening table bytes = (front rest : List ℕ) × IsAssignedTo table front × (bytes ≡ front ++ 0x5B ∷ rest)

-- a line opens a table exactly where, before its comment, it is an assignment to the table up to a `[`
abbrev pub OpeningsAreAssignments : Type 0
OpeningsAreAssignments =
    (table : MatTable) (line : List ℕ) →
    (opens table line ≡ true → IsOpening table (without_comment (content line))) × (IsOpening table (without_comment (content line)) → opens table line ≡ true)

-- the text of a table that is there stands behind the lines before the first that opens it, and behind an assignment to the table and
-- `[`; no `]` that is in no comment is in it, and such a one follows it, or the bytes end with it where the table isn't ended
abbrev pub TextStandsBetween : Type 0
TextStandsBetween =
    (table : MatTable) (bytes : List ℕ) → is_there table bytes ≡ true →
    (front back : List ℕ) × IsAssignedTo table front × EndsAt (is_ended table bytes) back
    × (list_any closes (ended_lines (text_of table bytes)) ≡ false)
    × (is_ended table bytes ≡ true → list_any closes (ended_lines (text_of table bytes ++ 0x5D ∷ [])) ≡ true)
    × (bytes ≡ concat (before_first (opens table) (ended_lines bytes)) ++ (front ++ 0x5B ∷ (text_of table bytes ++ back)))

-- the rows of a table's text are those of the whole lines of the file
abbrev pub RowsAreOfLines : Type 0
RowsAreOfLines =
    (table : MatTable) (bytes : List ℕ) → rows_of (is_none (end_of table bytes)) (line_of table bytes) (text_of table bytes) ≡ table_rows table bytes

-- what is read from a file are the nodes and branches that its bytes are
abbrev pub FileIsRead : Type 0
FileIsRead =
    (most : ℕ) (bytes : List ℕ) (tables : Tables) →
    (mat_within most bytes ≡ Ok tables → IsFile most bytes tables) × (IsFile most bytes tables → mat_within most bytes ≡ Ok tables)

-- what is read is the case that the bytes are
abbrev pub CaseIsRead : Type 0
CaseIsRead =
    (most : ℕ) → most ≤ most_rows → (matpower meters : List ℕ) (candidates : Option (List ℕ)) (tables : Tables) →
    (case_within most matpower meters candidates ≡ Ok tables → IsCase most matpower meters candidates tables)
    × (IsCase most matpower meters candidates tables → case_within most matpower meters candidates ≡ Ok tables)

-- a fault is met exactly where the bytes are no case
abbrev pub FaultWhereNoCase : Type 0
FaultWhereNoCase =
    (most : ℕ) → most ≤ most_rows → (matpower meters : List ℕ) (candidates : Option (List ℕ)) →
    ((fault : MatEnd) → case_within most matpower meters candidates ≡ Err fault → (tables : Tables) → ¬ IsCase most matpower meters candidates tables)
    × (((tables : Tables) → ¬ IsCase most matpower meters candidates tables) → (fault : MatEnd) × (case_within most matpower meters candidates ≡ Err fault))

-- the fault of a file that is met is one, and no fault of the file comes before it; none is met exactly where the file has none
abbrev pub FirstFaultOfFile : Type 0
FirstFaultOfFile =
    (most : ℕ) (bytes : List ℕ) →
    MatchResult (mat_within most bytes) (λ tables. (fault : MatFault) → IsFault most bytes fault → ⊥)
    (λ fault. IsFault most bytes fault × ((other : MatFault) → IsFault most bytes other → IsNotAfter fault other))

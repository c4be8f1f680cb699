-- The first fault of tables that are read one after another.
use Rattle.std.proofs.Common.{ℕ, ◌≡◌, ◌∙◌, ◌<◌, ◌≤◌, inl, inr, ap, refl, sym, subst, List, [], ◌∷◌, Option, Some, None, Result, Ok, Err, MatchOption, MatchResult, arith, map, suc}
use Rattle.obs_case.specs.declared.rows.Candidate.{Candidate}
use Rattle.obs_case.specs.declared.rows.Meter.{Meter}
use Rattle.obs_case.specs.Tables.{IsValid, Tables, branch_names, candidate_names, meter_names, most_rows, no_rows_within, switch_names, usual_rows}
use Rattle.obs_case.proofs.ValidLemmas.{valid-no_rows_within}
use Rattle.obs_case_csv.specs.declared.faults.RowFault.{RowFault}
use Rattle.obs_case_csv.specs.declared.faults.Table.{Table}
use Rattle.obs_case_csv.specs.declared.faults.Table.TheVariants.{Nodes, Switches, Branches, Meters, Candidates}
use Rattle.obs_case_csv.specs.declared.faults.TableFault.{TableFault}
use Rattle.obs_case_csv.specs.Fields.{Record}
use Rattle.obs_case_csv.specs.inner.IsFault.{IsFault, IsFaultAmong, NotAfter, NotAfterAmong, place_of_table}
use Rattle.obs_case_csv.specs.inner.Laws.{FirstFaultBehindFile, FirstFaultOfCase, FirstFaultOfCaseWithin, FirstFaultOfSwitching, FirstFaultOfSwitchingWithin}
use Rattle.obs_case_csv.specs.inner.OneTable.{HasRows, IsTableOf}
use Rattle.obs_case_csv.specs.Read.{fault_in, rows_in, tables_or, then_read}
use Rattle.obs_case_csv.specs.Rows.{names_in}
use Rattle.obs_case_csv.proofs.FirstLemmas.{FirstFault-holds}
use Rattle.obs_case_csv.proofs.TableLemmas.{TableIsRead-holds}

-- tables read one after another
abbrev reads : List (Table × List ℕ) → Result Tables TableFault → Result Tables TableFault
reads [] before = before
reads (file ∷ files) before = reads files (then_read file.0 file.1 before)

reads-fault : (files : List (Table × List ℕ)) (fault : TableFault) → reads files (Err fault) ≡ Err fault
reads-fault [] fault = refl
reads-fault (file ∷ files) fault = reads-fault files fault

-- they stand in their order, and the first of them has no rows yet
abbrev Rise : ℕ → List (Table × List ℕ) → Type 0
Rise low [] = Unit {0}
Rise low (file ∷ files) = (low ≤ place_of_table file.0) × Rise (suc (place_of_table file.0)) files

abbrev IsOpen : ℕ → Tables → Type 0
IsOpen low t = (table : Table) → low ≤ place_of_table table → names_in table t ≡ []

place_within : (table : Table) → place_of_table table ≤ 4
place_within Nodes = omega arith
place_within Switches = omega arith
place_within Branches = omega arith
place_within Meters = omega arith
place_within Candidates = omega arith

-- the rows of one table leave the names of the later ones
names-stay : (table other : Table) (header : Record) (records : List Record) (t u : Tables) → place_of_table table < place_of_table other → HasRows table header records t u → names_in other u ≡ names_in other t
names-stay Nodes Switches header records t u lt has = ap switch_names has.0
names-stay Nodes Branches header records t u lt has = ap branch_names has.0
names-stay Nodes Meters header records t u lt has = ap meter_names has.0
names-stay Nodes Candidates header records t u lt has = ap candidate_names has.0
names-stay Switches Branches header records t u lt has = ap branch_names has.0
names-stay Switches Meters header records t u lt has = ap meter_names has.0
names-stay Switches Candidates header records t u lt has = ap candidate_names has.0
names-stay Branches Meters header records t u lt has = ap meter_names has.0
names-stay Branches Candidates header records t u lt has = ap candidate_names has.0
names-stay Meters Candidates header records t u lt has = ap candidate_names has.0
names-stay table other header records t u lt has = absurd (omega (arith, lt, place_within other))

open-stays : (low : ℕ) (table : Table) (bytes : List ℕ) (t u : Tables) → low ≤ place_of_table table → IsOpen low t → IsTableOf table bytes t u → IsOpen (suc (place_of_table table)) u
open-stays low table bytes t u le still is other later = names-stay table other is.header is.records t u (omega arith) is.rows ∙ still other (omega arith)

abbrev HasNone : List (Table × List ℕ) → Tables → Type 0
HasNone files t = (table : Table) (row : ℕ) (code : RowFault) → IsFaultAmong files t table row code → ⊥

abbrev IsFirst : List (Table × List ℕ) → Tables → TableFault → Type 0
IsFirst files t fault =
    IsFaultAmong files t fault.table fault.row fault.code
    × ((table : Table) (row : ℕ) (code : RowFault) → IsFaultAmong files t table row code → NotAfterAmong fault.table fault.row fault.code table row code)

-- the first table has a fault
here : (table : Table) (bytes : List ℕ) (files : List (Table × List ℕ)) (t : Tables) → IsValid t → names_in table t ≡ [] → (fault : TableFault) → fault_in table t bytes ≡ Some fault
    → IsFirst ((table, bytes) ∷ files) t fault
here table bytes files t valid empty fault e =
    let first = subst (λ o. MatchOption o ((row : ℕ) (code : RowFault) → IsFault table t bytes row code → ⊥) (λ f. (f.table ≡ table) × IsFault table t bytes f.row f.code × ((row : ℕ) (code : RowFault) → IsFault table t bytes row code → NotAfter f.row f.code row code))) e (FirstFault-holds table t bytes valid empty) in (
      inl (sym first.0, first.1),
      λ other row code h. elim h [
        | inl same ↦ inr (first.0 ∙ same.0, first.2 row code same.1)
        | inr later ↦ (let read = (TableIsRead-holds table t bytes valid empty).1 later.0 later.1 in cc)
      ],
    )

-- it has none
module _ (table : Table) (bytes : List ℕ) (files : List (Table × List ℕ)) (t : Tables) (valid : IsValid t) (empty : names_in table t ≡ []) (fine : fault_in table t bytes ≡ None) where
  none_here : (row : ℕ) (code : RowFault) → IsFault table t bytes row code → ⊥
  none_here = subst (λ o. MatchOption o ((row : ℕ) (code : RowFault) → IsFault table t bytes row code → ⊥) (λ f. (f.table ≡ table) × IsFault table t bytes f.row f.code × ((row : ℕ) (code : RowFault) → IsFault table t bytes row code → NotAfter f.row f.code row code))) fine (FirstFault-holds table t bytes valid empty)

  read : IsTableOf table bytes t (rows_in table t bytes)
  read = (TableIsRead-holds table t bytes valid empty).0 fine

  in_later : (other : Table) (row : ℕ) (code : RowFault) → IsFaultAmong ((table, bytes) ∷ files) t other row code → IsFaultAmong files (rows_in table t bytes) other row code
  in_later other row code h =
      elim h [
        | inl same ↦ absurd (none_here row code same.1)
        | inr later ↦ subst (λ u. IsFaultAmong files u other row code) (sym ((TableIsRead-holds table t bytes valid empty).1 later.0 later.1).1) later.2
      ]

  pub after : (r : Result Tables TableFault) → MatchResult r (λ u. HasNone files (rows_in table t bytes)) (IsFirst files (rows_in table t bytes))
      → MatchResult r (λ u. HasNone ((table, bytes) ∷ files) t) (IsFirst ((table, bytes) ∷ files) t)
  after (Ok u) none = λ other row code h. none other row code (in_later other row code h)
  after (Err fault) first = (inr (rows_in table t bytes, read, first.0), λ other row code h. first.1 other row code (in_later other row code h))

among : (files : List (Table × List ℕ)) (low : ℕ) (t : Tables) → IsValid t → Rise low files → IsOpen low t → MatchResult (reads files (Ok t)) (λ u. HasNone files t) (IsFirst files t)
among [] low t valid rise still = λ table row code h. h
among (file ∷ files) low t valid rise still =
    by (fault_in file.0 t file.1) refl (λ fine. (
    let is = read file.0 file.1 files t valid (still file.0 rise.0) fine in
    among files (suc (place_of_table file.0)) (rows_in file.0 t file.1) is.valid rise.1 (open-stays low file.0 file.1 t (rows_in file.0 t file.1) rise.0 still is)
    ))
  where
    by : (o : Option TableFault) → fault_in file.0 t file.1 ≡ o
        → (fault_in file.0 t file.1 ≡ None → MatchResult (reads files (Ok (rows_in file.0 t file.1))) (λ u. HasNone files (rows_in file.0 t file.1)) (IsFirst files (rows_in file.0 t file.1)))
        → MatchResult (reads files (tables_or (fault_in file.0 t file.1) (rows_in file.0 t file.1))) (λ u. HasNone (file ∷ files) t) (IsFirst (file ∷ files) t)
    by None fine rest =
        subst (λ o. MatchResult (reads files (tables_or o (rows_in file.0 t file.1))) (λ u. HasNone (file ∷ files) t) (IsFirst (file ∷ files) t)) (sym fine)
        (after file.0 file.1 files t valid (still file.0 rise.0) fine (reads files (Ok (rows_in file.0 t file.1))) (rest fine))
    by (Some fault) e rest =
        subst (λ o. MatchResult (reads files (tables_or o (rows_in file.0 t file.1))) (λ u. HasNone (file ∷ files) t) (IsFirst (file ∷ files) t)) (sym e)
        (subst (λ r. MatchResult r (λ u. HasNone (file ∷ files) t) (IsFirst (file ∷ files) t)) (sym (reads-fault files fault))
        (here file.0 file.1 files t valid (still file.0 rise.0) fault e))

no_rows-open : (most : ℕ) → IsOpen 0 (no_rows_within most)
no_rows-open most Nodes le = refl
no_rows-open most Switches le = refl
no_rows-open most Branches le = refl
no_rows-open most Meters le = refl
no_rows-open most Candidates le = refl

pub FirstFaultOfCaseWithin-holds : (most : ℕ) → most ≤ most_rows → FirstFaultOfCaseWithin most
FirstFaultOfCaseWithin-holds most limit nodes switches branches meters None =
    among ((Nodes, nodes) ∷ (Switches, switches) ∷ (Branches, branches) ∷ (Meters, meters) ∷ []) 0 (no_rows_within most) (valid-no_rows_within most limit)
    (omega arith, (omega arith, (omega arith, (omega arith, tt)))) (no_rows-open most)
FirstFaultOfCaseWithin-holds most limit nodes switches branches meters (Some bytes) =
    among ((Nodes, nodes) ∷ (Switches, switches) ∷ (Branches, branches) ∷ (Meters, meters) ∷ (Candidates, bytes) ∷ []) 0 (no_rows_within most) (valid-no_rows_within most limit)
    (omega arith, (omega arith, (omega arith, (omega arith, (omega arith, tt))))) (no_rows-open most)

pub FirstFaultOfSwitchingWithin-holds : (most : ℕ) → most ≤ most_rows → FirstFaultOfSwitchingWithin most
FirstFaultOfSwitchingWithin-holds most limit nodes switches =
    among ((Nodes, nodes) ∷ (Switches, switches) ∷ []) 0 (no_rows_within most) (valid-no_rows_within most limit) (omega arith, (omega arith, tt)) (no_rows-open most)

pub FirstFaultOfCase-holds : FirstFaultOfCase
FirstFaultOfCase-holds = FirstFaultOfCaseWithin-holds usual_rows (omega arith)

pub FirstFaultOfSwitching-holds : FirstFaultOfSwitching
FirstFaultOfSwitching-holds = FirstFaultOfSwitchingWithin-holds usual_rows (omega arith)

-- where meters and candidates are to come
behind-open : (t : Tables) → t.meters ≡ [] → t.candidates ≡ [] → IsOpen 3 t
behind-open t meters candidates Nodes low = absurd (omega (arith, low))
behind-open t meters candidates Switches low = absurd (omega (arith, low))
behind-open t meters candidates Branches low = absurd (omega (arith, low))
behind-open t meters candidates Meters low = ap (λ (rows : List Meter). map (λ (row : Meter). row.name) rows) meters
behind-open t meters candidates Candidates low = ap (λ (rows : List Candidate). map (λ (row : Candidate). row.name) rows) candidates

pub FirstFaultBehindFile-holds : FirstFaultBehindFile
FirstFaultBehindFile-holds meters None t valid no_meters no_candidates =
    among ((Meters, meters) ∷ []) 3 t valid (omega arith, tt) (behind-open t no_meters no_candidates)
FirstFaultBehindFile-holds meters (Some bytes) t valid no_meters no_candidates =
    among ((Meters, meters) ∷ (Candidates, bytes) ∷ []) 3 t valid (omega arith, (omega arith, tt)) (behind-open t no_meters no_candidates)

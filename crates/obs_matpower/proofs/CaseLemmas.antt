-- What is read from a file with its tables, and what cases are.
use Rattle.std.proofs.Common.{◌≡◌, ◌≤◌, ℕ, List, [], Option, Result, Ok, Err, refl, sym, ap, ◌∙◌, subst}
use Rattle.obs_case.specs.Tables.{IsValid, Tables, most_rows}
use Rattle.obs_case_csv.specs.declared.faults.Table.TheVariants.{Meters, Candidates}
use Rattle.obs_case_csv.specs.declared.faults.TableFault.{TableFault}
use Rattle.obs_case_csv.specs.Read.{tables_after, then_read}
use Rattle.obs_case_csv.specs.Rows.{names_in}
use Rattle.obs_case_csv.proofs.AfterLemmas.{fault_where_none, given_valid, tables_are, tables_read}
use Rattle.obs_case_csv.proofs.LimitLemmas.{tables_after-limit}
use Rattle.obs_matpower.specs.declared.fault.MatFault.{MatFault}
use Rattle.obs_matpower.specs.declared.part.MatTable.TheVariants as table
use Rattle.obs_matpower.specs.inner.Case.{IsCase, IsFile}
use Rattle.obs_matpower.specs.Laws.{CasesAreValid, CasesHaveLimit}
use Rattle.obs_matpower.specs.inner.Laws.{CaseIsRead, FaultWhereNoCase}
use Rattle.obs_matpower.specs.Read.{as_end, case_within, mat_within, with_tables}
use Rattle.obs_matpower.specs.Whole.{table_rows}
use Rattle.obs_matpower.proofs.LawLemmas.{branches_read, buses_read, file_is, file_read}
use Rattle.obs_matpower.proofs.ValidLemmas.{valid-rows}

-- a file's nodes and branches are valid, and there are no other rows
valid-file : (most : ℕ) → most ≤ most_rows → (bytes : List ℕ) (file : Tables) → IsFile most bytes file → IsValid file × (names_in Meters file ≡ []) × (names_in Candidates file ≡ [])
valid-file most limit bytes file (buses, branches, are, is) = (
  subst IsValid (sym is)
      (valid-rows most limit (table_rows table.Bus bytes) buses (table_rows table.Branch bytes) branches
      (buses_read most (table_rows table.Bus bytes) buses are.buses_are) (branches_read most buses (table_rows table.Branch bytes) branches are.branches_are)),
  ap (names_in Meters) is,
  ap (names_in Candidates) is,
)

as_end-ok : (r : Result Tables TableFault) (tables : Tables) → as_end r ≡ Ok tables → r ≡ Ok tables
as_end-ok (Ok t) tables is = (let same : Ok t ≡ Ok tables = is in let e : t ≡ tables = cc in ap (λ u. Ok u) e)
as_end-ok (Err fault) tables is = cc

module _ (most : ℕ) (limit : most ≤ most_rows) (matpower meters : List ℕ) (candidates : Option (List ℕ)) where
  case_is : (tables : Tables) (r : Result Tables MatFault) → mat_within most matpower ≡ r → with_tables meters candidates r ≡ Ok tables → IsCase most matpower meters candidates tables
  case_is tables (Err fault) read is = cc
  case_is tables (Ok file) read is =
      let of_file = file_is most matpower file read in
      let v = valid-file most limit matpower file of_file in
      let t = tables_are meters file tables v.0 v.1 v.2 candidates (then_read Meters meters (Ok file)) refl (as_end-ok (tables_after meters candidates file) tables is) in
      (file, t.0, of_file, t.1, t.2)

  case_read : (tables : Tables) → IsCase most matpower meters candidates tables → case_within most matpower meters candidates ≡ Ok tables
  case_read tables (file, metered, of_file, is, has) =
      let v = valid-file most limit matpower file of_file in
      ap (with_tables meters candidates) (file_read most matpower file of_file) ∙ ap as_end (tables_read meters file tables v.0 v.1 v.2 candidates metered is has)

pub CaseIsRead-holds : CaseIsRead
CaseIsRead-holds most limit matpower meters candidates tables = (
  case_is most limit matpower meters candidates tables (mat_within most matpower) refl,
  case_read most limit matpower meters candidates tables,
)

pub FaultWhereNoCase-holds : FaultWhereNoCase
FaultWhereNoCase-holds most limit matpower meters candidates =
    fault_where_none (case_within most matpower meters candidates) (IsCase most matpower meters candidates) (CaseIsRead-holds most limit matpower meters candidates)

pub CasesAreValid-holds : CasesAreValid
CasesAreValid-holds most limit matpower meters candidates tables is =
    let case = case_is most limit matpower meters candidates tables (mat_within most matpower) refl is in
    given_valid candidates case.1 tables case.3.valid case.4

-- the file's nodes and branches have the limit, and the tables behind it keep it
has_limit : (most : ℕ) (matpower meters : List ℕ) (candidates : Option (List ℕ)) (tables : Tables) (r : Result Tables MatFault) → mat_within most matpower ≡ r → with_tables meters candidates r ≡ Ok tables → tables.most ≡ most
has_limit most matpower meters candidates tables (Err fault) read is = cc
has_limit most matpower meters candidates tables (Ok file) read is =
    let of_file = file_is most matpower file read in
    tables_after-limit meters candidates file tables (as_end-ok (tables_after meters candidates file) tables is) ∙ ap (λ t. t.most) of_file.3

pub CasesHaveLimit-holds : CasesHaveLimit
CasesHaveLimit-holds most limit matpower meters candidates tables is = has_limit most matpower meters candidates tables (mat_within most matpower) refl is

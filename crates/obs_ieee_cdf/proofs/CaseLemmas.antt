-- What is read from a file with its tables, and what cases are.
use Rattle.std.proofs.Common.{◌≡◌, ◌≤◌, ℕ, List, [], Option, Result, Ok, Err, refl, sym, ap, ◌∙◌, subst}
use Rattle.obs_text.specs.Lines.{ended_lines}
use Rattle.obs_case.specs.Tables.{IsValid, Tables, most_rows}
use Rattle.obs_case_csv.specs.declared.faults.Table.TheVariants.{Meters, Candidates}
use Rattle.obs_case_csv.specs.declared.faults.TableFault.{TableFault}
use Rattle.obs_case_csv.specs.Read.{tables_after, then_read}
use Rattle.obs_case_csv.specs.Rows.{names_in}
use Rattle.obs_case_csv.proofs.AfterLemmas.{fault_where_none, given_valid, tables_are, tables_read}
use Rattle.obs_case_csv.proofs.LimitLemmas.{tables_after-limit}
use Rattle.obs_ieee_cdf.specs.declared.fault.CdfFault.{CdfFault}
use Rattle.obs_ieee_cdf.specs.inner.Case.{IsCase, IsFile}
use Rattle.obs_ieee_cdf.specs.Laws.{CasesAreValid, CasesHaveLimit}
use Rattle.obs_ieee_cdf.specs.inner.Laws.{CaseIsRead, FaultWhereNoCase}
use Rattle.obs_ieee_cdf.specs.Read.{as_end, case_within, with_tables}
use Rattle.obs_ieee_cdf.specs.Rows.{cdf_within}
use Rattle.obs_ieee_cdf.proofs.LawLemmas.{file_is, file_read}
use Rattle.obs_ieee_cdf.proofs.ValidLemmas.{valid-lines}

-- a file's nodes and branches are valid, and there are no other rows
valid-file : (most : ℕ) → most ≤ most_rows → (bytes : List ℕ) (file : Tables) → IsFile most bytes file → IsValid file × (names_in Meters file ≡ []) × (names_in Candidates file ≡ [])
valid-file most limit bytes file (buses, branches, are, is) = (
  subst IsValid (sym is) (valid-lines most limit (ended_lines bytes) buses branches are),
  ap (names_in Meters) is,
  ap (names_in Candidates) is,
)

as_end-ok : (r : Result Tables TableFault) (tables : Tables) → as_end r ≡ Ok tables → r ≡ Ok tables
as_end-ok (Ok t) tables is = (let same : Ok t ≡ Ok tables = is in let e : t ≡ tables = cc in ap (λ u. Ok u) e)
as_end-ok (Err fault) tables is = cc

module _ (most : ℕ) (limit : most ≤ most_rows) (cdf meters : List ℕ) (candidates : Option (List ℕ)) where
  case_is : (tables : Tables) (r : Result Tables CdfFault) → cdf_within most cdf ≡ r → with_tables meters candidates r ≡ Ok tables → IsCase most cdf meters candidates tables
  case_is tables (Err fault) read is = cc
  case_is tables (Ok file) read is =
      let of_file = file_is most cdf file read in
      let v = valid-file most limit cdf file of_file in
      let t = tables_are meters file tables v.0 v.1 v.2 candidates (then_read Meters meters (Ok file)) refl (as_end-ok (tables_after meters candidates file) tables is) in
      (file, t.0, of_file, t.1, t.2)

  case_read : (tables : Tables) → IsCase most cdf meters candidates tables → case_within most cdf meters candidates ≡ Ok tables
  case_read tables (file, metered, of_file, is, has) =
      let v = valid-file most limit cdf file of_file in
      ap (with_tables meters candidates) (file_read most cdf file of_file) ∙ ap as_end (tables_read meters file tables v.0 v.1 v.2 candidates metered is has)

pub CaseIsRead-holds : CaseIsRead
CaseIsRead-holds most limit cdf meters candidates tables = (
  case_is most limit cdf meters candidates tables (cdf_within most cdf) refl,
  case_read most limit cdf meters candidates tables,
)

pub FaultWhereNoCase-holds : FaultWhereNoCase
FaultWhereNoCase-holds most limit cdf meters candidates =
    fault_where_none (case_within most cdf meters candidates) (IsCase most cdf meters candidates) (CaseIsRead-holds most limit cdf meters candidates)

pub CasesAreValid-holds : CasesAreValid
CasesAreValid-holds most limit cdf meters candidates tables is =
    let case = case_is most limit cdf meters candidates tables (cdf_within most cdf) refl is in
    given_valid candidates case.1 tables case.3.valid case.4

-- the file's nodes and branches have the limit, and the tables behind it keep it
has_limit : (most : ℕ) (cdf meters : List ℕ) (candidates : Option (List ℕ)) (tables : Tables) (r : Result Tables CdfFault) → cdf_within most cdf ≡ r → with_tables meters candidates r ≡ Ok tables → tables.most ≡ most
has_limit most cdf meters candidates tables (Err fault) read is = cc
has_limit most cdf meters candidates tables (Ok file) read is =
    let of_file = file_is most cdf file read in
    tables_after-limit meters candidates file tables (as_end-ok (tables_after meters candidates file) tables is) ∙ ap (λ t. t.most) of_file.3

pub CasesHaveLimit-holds : CasesHaveLimit
CasesHaveLimit-holds most limit cdf meters candidates tables is = has_limit most cdf meters candidates tables (cdf_within most cdf) refl is

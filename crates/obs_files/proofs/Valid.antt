-- Cases that files are are valid.
use Rattle.std.proofs.Common.{◌≡◌, ◌≤◌, ◌∙◌, ap, ℕ, List, None, Option, Some, Result, Ok, Err, refl, subst}
use Rattle.std.specs.Result.{MatchResult}
use Rattle.obs_case.specs.Tables.{IsValid, Tables, most_rows, no_rows_within}
use Rattle.obs_case_csv.specs.declared.faults.Table.TheVariants.{Nodes, Switches}
use Rattle.obs_case_csv.specs.declared.faults.TableFault.{TableFault}
use Rattle.obs_case_csv.specs.Read.{tables_after, tables_within, then_read}
use Rattle.obs_case_csv.proofs.ExactLemmas.{ReadExactlyWithin-holds}
use Rattle.obs_case_csv.proofs.TableLemmas.{SwitchingIsReadWithin-holds}
use Rattle.obs_ieee_cdf.specs.declared.fault.CdfFault.{CdfFault}
use Rattle.obs_ieee_cdf.specs.Faults.{cdf_fault}
use Rattle.obs_ieee_cdf.specs.Read as cdf
use Rattle.obs_matpower.specs.declared.fault.MatFault.{MatFault}
use Rattle.obs_matpower.specs.Faults.{mat_fault}
use Rattle.obs_matpower.specs.Read.{mat_within}
use Rattle.obs_matpower.specs.Read as mat
use Rattle.obs_matpower.proofs.CaseLemmas.{CasesAreValid-holds as mat_case-valid, CasesHaveLimit-holds as mat_case-limit}
use Rattle.obs_ieee_cdf.specs.Rows.{cdf_within}
use Rattle.obs_ieee_cdf.proofs.CaseLemmas.{CasesAreValid-holds as cdf_case-valid, CasesHaveLimit-holds as cdf_case-limit}
use Rattle.obs_text.specs.Faults.{Fault}
use Rattle.obs_trial.proofs.ValidLemmas.{valid_trial}
use Rattle.obs_files.specs.declared.words.CaseForm.{CaseForm}
use Rattle.obs_files.specs.declared.words.CaseForm.TheVariants.{Csv, Cdf, Matpower}
use Rattle.obs_files.specs.declared.words.Form.{Form}
use Rattle.obs_files.specs.declared.words.Form.TheVariants.{Topology, Case, Trial}
use Rattle.obs_files.specs.declared.words.CaseCommand.{CaseCommand}
use Rattle.obs_files.specs.Limits.{IsLimits, Limits}
use Rattle.obs_files.specs.Files.{candidates_in, case_in, case_in_files, case_of_tables, case_with_tables, first_too_long, parsed, switching_case, unless_fault}
use Rattle.obs_files.specs.Laws.{CasesAreValid}
use Rattle.obs_files.specs.Words.{HasRows, parts_of, words_of}

-- a case, where there is one, is valid
abbrev HoldsValid : Result Tables Fault → Type 0
HoldsValid r = MatchResult r IsValid (λ fault. Unit {0})

-- and has this limit
abbrev IsUnder : ℕ → Tables → Type 0
IsUnder most t = IsValid t × (t.most ≡ most)

abbrev HoldsUnder : ℕ → Result Tables Fault → Type 0
HoldsUnder most r = MatchResult r (IsUnder most) (λ fault. Unit {0})

abbrev ReadsUnder : ℕ → Result Tables TableFault → Type 0
ReadsUnder most r = MatchResult r (IsUnder most) (λ fault. Unit {0})

valid_under : (most : ℕ) (r : Result Tables Fault) → HoldsUnder most r → HoldsValid r
valid_under most (Ok t) h = h.0
valid_under most (Err fault) h = tt

of_tables : (most : ℕ) (r : Result Tables TableFault) → ReadsUnder most r → HoldsUnder most (case_of_tables r)
of_tables most (Ok t) h = h
of_tables most (Err fault) h = tt

reads : (most : ℕ) (P : Tables → Type 0) (Q : TableFault → Type 0) → ((t : Tables) → P t → IsUnder most t) → (r : Result Tables TableFault) → MatchResult r P Q → ReadsUnder most r
reads most P Q valid (Ok t) h = valid t h
reads most P Q valid (Err fault) h = tt

ended : (most : ℕ) (r : Result Tables TableFault) → ((t : Tables) → r ≡ Ok t → IsUnder most t) → HoldsUnder most (case_of_tables r)
ended most (Ok t) h = h t refl
ended most (Err fault) h = tt

with_tables : {E : Type 0} (most : ℕ) (said : E → Fault) (meters : List ℕ) (candidates : Option (List ℕ)) (r : Result Tables E)
    → ((u t : Tables) → r ≡ Ok u → tables_after meters candidates u ≡ Ok t → IsUnder most t) → HoldsUnder most (case_with_tables said meters candidates r)
with_tables most said meters candidates (Ok u) h = ended most (tables_after meters candidates u) (λ t. h u t refl)
with_tables most said meters candidates (Err fault) h = tt

module _ (most : ℕ) (limit : most ≤ most_rows) where
  in_switching : (nodes switches : List ℕ) → HoldsUnder most (switching_case most nodes switches)
  in_switching nodes switches =
      of_tables most _
      (reads most _ _ (λ t h. (h.0.valid, h.0.limit)) (then_read Switches switches (then_read Nodes nodes (Ok (no_rows_within most)))) (SwitchingIsReadWithin-holds most limit nodes switches))

  in_case : (from : CaseForm) (candidates : Option (List ℕ)) (file : ℕ → List ℕ) → HoldsUnder most (case_in most from candidates file)
  in_case Csv candidates file =
      of_tables most _
      (reads most _ _ (λ t h. (h.0.valid, h.0.limit)) (tables_within most (file 2) (file 3) (file 4) (file 5) candidates)
      (ReadExactlyWithin-holds most limit (file 2) (file 3) (file 4) (file 5) candidates))
  in_case Cdf candidates file = with_tables most cdf_fault (file 3) candidates (cdf_within most (file 2)) (λ u t read e.
      let is = ap (λ (r : Result Tables CdfFault). cdf.with_tables (file 3) candidates r) read ∙ ap (λ (r : Result Tables TableFault). cdf.as_end r) e in (
        cdf_case-valid most limit (file 2) (file 3) candidates t is,
        cdf_case-limit most limit (file 2) (file 3) candidates t is,
      ))
  in_case Matpower candidates file = with_tables most mat_fault (file 3) candidates (mat_within most (file 2)) (λ u t read e.
      let is = ap (λ (r : Result Tables MatFault). mat.with_tables (file 3) candidates r) read ∙ ap (λ (r : Result Tables TableFault). mat.as_end r) e in (
        mat_case-valid most limit (file 2) (file 3) candidates t is,
        mat_case-limit most limit (file 2) (file 3) candidates t is,
      ))

unless : (P : Result Tables Fault → Type 0) → ((fault : Fault) → P (Err fault)) → (fault : Option Fault) (next : Result Tables Fault) → P next → P (unless_fault fault next)
unless P refused None next h = h
unless P refused (Some fault) next h = refused fault

module _ (limits : Limits) (ok : IsLimits limits) where
  in_form : (form : Form) (file : ℕ → List ℕ) → HasRows form → HoldsValid (parsed limits form file)
  unfolding parsed
  in_form Topology file some = valid_under limits.rows _ (in_switching limits.rows ok.few_rows (file 1) (file 2))
  in_form (Case command from) file some = valid_under limits.rows _ (in_case limits.rows ok.few_rows from (candidates_in (Case command from) file) file)
  in_form (Trial rows seed) file some = valid_trial rows seed some.0 some.1

  in_files : (form : Form) (file : ℕ → List ℕ) → HasRows form → HoldsValid (case_in_files limits form file)
  in_files form file some = unless HoldsValid (λ fault. tt) (first_too_long limits (parts_of form) file (words_of form)) (parsed limits form file) (in_form form file some)

  parsed_under : (command : CaseCommand) (from : CaseForm) (file : ℕ → List ℕ) → HoldsUnder limits.rows (parsed limits (Case command from) file)
  unfolding parsed
  parsed_under command from file = in_case limits.rows ok.few_rows from (candidates_in (Case command from) file) file

  files_under : (command : CaseCommand) (from : CaseForm) (file : ℕ → List ℕ) → HoldsUnder limits.rows (case_in_files limits (Case command from) file)
  files_under command from file =
      let form = Case command from in
      unless (HoldsUnder limits.rows) (λ fault. tt) (first_too_long limits (parts_of form) file (words_of form)) (parsed limits form file) (parsed_under command from file)

  -- the case that the files of a form are has the limit of rows
  pub case_within : (command : CaseCommand) (from : CaseForm) (file : ℕ → List ℕ) (t : Tables) → case_in_files limits (Case command from) file ≡ Ok t → t.most ≡ limits.rows
  case_within command from file t e = (subst (HoldsUnder limits.rows) e (files_under command from file)).1

pub CasesAreValid-holds : CasesAreValid
CasesAreValid-holds limits form file t ok some e = subst HoldsValid e (in_files limits ok form file some)

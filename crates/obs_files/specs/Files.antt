-- What files hold: a case, or their first fault.
use Rattle.std.specs.Prelude.{ℕ, Bool, nat_lt, List, [], ◌∷◌, length, Option, None, Some, Result, Ok, Err, if◌then◌else◌}
use Rattle.obs_text.specs.Faults.{Fault, too_long}
use Rattle.obs_case.specs.Tables.{Tables, no_rows_within}
use Rattle.obs_case_csv.specs.declared.faults.TableFault.{TableFault}
use Rattle.obs_case_csv.specs.declared.faults.Table.TheVariants.{Nodes, Switches}
use Rattle.obs_case_csv.specs.Faults.{table_fault}
use Rattle.obs_case_csv.specs.Read.{tables_after, tables_within, then_read}
use Rattle.obs_ieee_cdf.specs.Faults.{cdf_fault}
use Rattle.obs_ieee_cdf.specs.Rows.{cdf_within}
use Rattle.obs_matpower.specs.Faults.{mat_fault}
use Rattle.obs_matpower.specs.Read.{mat_within}
use Rattle.obs_trial.specs.Trial.{trial_of}
use Rattle.obs_files.specs.declared.words.CaseForm.{CaseForm}
use Rattle.obs_files.specs.declared.words.CaseForm.TheVariants.{Csv, Cdf, Matpower}
use Rattle.obs_files.specs.declared.words.Form.{Form}
use Rattle.obs_files.specs.declared.words.Form.TheVariants.{Topology, Case, Trial}
use Rattle.obs_files.specs.Limits.{Limits}
use Rattle.obs_files.specs.Words.{candidates_at, certificate_at, is_offered, parts_of, takes_certificate, words_of}

-- whether bytes are more than a file may have
abbrev pub is_too_long : Limits → List ℕ → Bool
is_too_long limits bytes = nat_lt limits.bytes (length bytes)

-- the fault of the first file that is too long, of those of these words, which are these parts of the input
abbrev pub first_too_long : Limits → List (List ℕ) → (ℕ → List ℕ) → List ℕ → Option Fault
first_too_long limits parts file [] = None
first_too_long limits [] file (word ∷ words) = None
first_too_long limits (part ∷ parts) file (word ∷ words) =
    if is_too_long limits (file word) then Some (too_long part) else first_too_long limits parts file words

-- the case that tables are, or their first fault
abbrev pub case_of_tables : Result Tables TableFault → Result Tables Fault
case_of_tables (Ok t) = Ok t
case_of_tables (Err fault) = Err (table_fault fault)

-- the case that nodes and branches are with a table of meters and, where it is given, one of candidates, or the first fault, which
-- says this
abbrev pub case_with_tables : {E : Type 0} → (E → Fault) → List ℕ → Option (List ℕ) → Result Tables E → Result Tables Fault
case_with_tables said meters candidates (Ok t) = case_of_tables (tables_after meters candidates t)
case_with_tables said meters candidates (Err fault) = Err (said fault)

-- the case that nodes and switches alone are, with at most so many rows of each
abbrev pub switching_case : ℕ → List ℕ → List ℕ → Result Tables Fault
switching_case most nodes switches = case_of_tables (then_read Switches switches (then_read Nodes nodes (Ok (no_rows_within most))))

-- the case that the files of a case's form are, which stand behind two words, with candidates where they are given and at most so many
-- rows of each table
abbrev pub case_in : ℕ → CaseForm → Option (List ℕ) → (ℕ → List ℕ) → Result Tables Fault
case_in most Csv candidates file = case_of_tables (tables_within most (file 2) (file 3) (file 4) (file 5) candidates)
case_in most Cdf candidates file = case_with_tables cdf_fault (file 3) candidates (cdf_within most (file 2))
case_in most Matpower candidates file = case_with_tables mat_fault (file 3) candidates (mat_within most (file 2))

-- the bytes of the candidates, where they stand with the case
abbrev pub candidates_in : Form → (ℕ → List ℕ) → Option (List ℕ)
candidates_in form file = if is_offered form then Some (file (candidates_at form)) else None

-- the case that files of this form are, none of which is too long. That of a trial is generated, whatever the limits are
unfoldable pub parsed : Limits → Form → (ℕ → List ℕ) → Result Tables Fault
parsed limits Topology file = switching_case limits.rows (file 1) (file 2)
parsed limits (Case command from) file = case_in limits.rows from (candidates_in (Case command from) file) file
parsed limits (Trial rows seed) file = Ok (trial_of rows seed)

-- what comes next, unless there is a fault
abbrev pub unless_fault : Option Fault → Result Tables Fault → Result Tables Fault
unless_fault None next = next
unless_fault (Some fault) next = Err fault

-- the case that the files of a form are, or their first fault: that of the first file that is too long, else of what they hold
abbrev pub case_in_files : Limits → Form → (ℕ → List ℕ) → Result Tables Fault
case_in_files limits form file = unless_fault (first_too_long limits (parts_of form) file (words_of form)) (parsed limits form file)

-- the bytes of the certificate, which is the last file; none of a form that takes none
abbrev pub certificate_in : Form → (ℕ → List ℕ) → List ℕ
certificate_in form file = if takes_certificate form then file (certificate_at form) else []

-- Which words have which form, and which of them name files.
use Rattle.std.specs.Prelude.{ℕ, ◌≤◌, ◌+◌, ◌==◌, ◌&&◌, Bool, true, false, nat_lt, List, [], ◌∷◌, ◌++◌, length, codes, map, Option, None, Some, if◌then◌else◌, slice_index_or}
use Rattle.std.specs.List.{find, range_with_len}
use Rattle.std.specs.Str.{bytes_eq}
use Rattle.obs_text.specs.Numbers.{whole_of}
use Rattle.obs_files.specs.declared.words.CaseForm.{CaseForm}
use Rattle.obs_files.specs.declared.words.CaseForm.TheVariants.{Csv, Cdf, Matpower}
use Rattle.obs_files.specs.declared.words.CaseCommand.{CaseCommand}
use Rattle.obs_files.specs.declared.words.CaseCommand.TheVariants.{Report, Place, Session, Verify, Study as StudyOf}
use Rattle.obs_files.specs.declared.words.Study.{Study}
use Rattle.obs_files.specs.declared.words.Study.TheVariants.{Outages, Pairs, Stations}
use Rattle.obs_files.specs.declared.words.Form.{Form}
use Rattle.obs_files.specs.declared.words.Form.TheVariants.{Topology, Case, Trial}

-- the word that names a case's form
abbrev pub case_word : CaseForm → List ℕ
case_word Csv = codes "tables"
case_word Cdf = codes "cdf"
case_word Matpower = codes "matpower"

-- which part of the input each file of a case is, in the order of the words
abbrev pub case_parts : CaseForm → List (List ℕ)
case_parts Csv = codes "nodes" ∷ codes "switches" ∷ codes "branches" ∷ codes "meters" ∷ []
case_parts Cdf = codes "cdf" ∷ codes "meters" ∷ []
case_parts Matpower = codes "matpower" ∷ codes "meters" ∷ []

-- a list of one item where a test is met, else none
abbrev pub item_if : {A : Type 0} → Bool → A → List A
item_if b x = if b then x ∷ [] else []

-- one where a test is met, else none
abbrev pub one_if : Bool → ℕ
one_if b = if b then 1 else 0

-- the word of a study's command
abbrev pub study_word : Study → List ℕ
study_word Outages = codes "outages"
study_word Pairs = codes "pairs"
study_word Stations = codes "stations"

-- the word of a form's command
abbrev pub command_word : Form → List ℕ
command_word Topology = codes "topology"
command_word (Case Report from) = codes "report"
command_word (Case Place from) = codes "place"
command_word (Case (Session offered) from) = codes "session"
command_word (Case (Verify offered) from) = codes "verify"
command_word (Case (StudyOf study) from) = study_word study
command_word (Trial rows seed) = codes "trial"

-- whether candidates stand with the case, and the word `with` before that of theirs
abbrev pub has_with : Form → Bool
has_with (Case (Session offered) from) = offered
has_with (Case (Verify offered) from) = offered
has_with form = false

-- whether candidates stand with the case, behind the word `with` or without it
abbrev pub is_offered : Form → Bool
is_offered (Case Place from) = true
is_offered form = has_with form

-- whether words of a form are a session's, and then whether with candidates
abbrev pub offers : Option Form → Option Bool
offers (Some (Case (Session offered) from)) = Some offered
offers form = None

-- a trial has from 1 to 100 rows
abbrev pub HasRows : Form → Type 0
HasRows (Trial rows seed) = (1 ≤ rows) × (rows ≤ 100)
HasRows form = Unit {0}

-- whether a form takes a certificate, which is its last file
abbrev pub takes_certificate : Form → Bool
takes_certificate (Case (Verify offered) from) = true
takes_certificate form = false

-- which part of the input each file of a form's case is, in the order of the words
abbrev pub first_parts : Form → List (List ℕ)
first_parts Topology = codes "nodes" ∷ codes "switches" ∷ []
first_parts (Case command from) = case_parts from
first_parts (Trial rows seed) = []

-- the same of the files behind those of the case
abbrev pub parts_behind : Form → List (List ℕ)
parts_behind form = item_if (is_offered form) (codes "candidates") ++ item_if (takes_certificate form) (codes "certificate")

-- the same of all files of a form
abbrev pub parts_of : Form → List (List ℕ)
parts_of form = first_parts form ++ parts_behind form

-- the position of the first word that names a file: behind the command, and behind the word for the form of a case
abbrev pub first_word : Form → ℕ
first_word (Case command from) = 2
first_word form = 1

-- the position behind the words that name the files of a form's case
abbrev pub behind_case : Form → ℕ
behind_case form = first_word form + length (first_parts form)

-- the position of the word that names the candidates, where they stand with the case
abbrev pub candidates_at : Form → ℕ
candidates_at form = behind_case form + one_if (has_with form)

-- the position of the word that names the certificate, where the form takes one
abbrev pub certificate_at : Form → ℕ
certificate_at form = candidates_at form + one_if (is_offered form)

-- how many words a form has whose words name files
abbrev pub word_count : Form → ℕ
word_count form = certificate_at form + one_if (takes_certificate form)

-- the positions of the words that name a form's files, in the order in which these are read
abbrev pub words_of : Form → List ℕ
words_of form =
    range_with_len (first_word form) (length (first_parts form))
    ++ (item_if (is_offered form) (candidates_at form) ++ item_if (takes_certificate form) (certificate_at form))

-- the same where the words have a form, and else none
abbrev pub file_words : Option Form → List ℕ
file_words None = []
file_words (Some form) = words_of form

-- whether the word at a position is this one
abbrev pub is_word : List (List ℕ) → ℕ → List ℕ → Bool
is_word words at word = nat_lt at (length words) && bytes_eq (slice_index_or words at []) word

-- the form of the case that is named behind the command
abbrev pub case_form_of : List (List ℕ) → Option CaseForm
case_form_of words =
    if is_word words 1 (case_word Csv) then Some Csv
    else if is_word words 1 (case_word Cdf) then Some Cdf
    else if is_word words 1 (case_word Matpower) then Some Matpower
    else None

-- the commands over a case, those with candidates behind the word `with` too
abbrev pub case_commands : List CaseCommand
case_commands = Report ∷ Place ∷ Session false ∷ Session true ∷ Verify false ∷ Verify true
    ∷ StudyOf Outages ∷ StudyOf Pairs ∷ StudyOf Stations ∷ []

-- whether words are those of a form: so many, the command first, and the word `with` where it stands before candidates
abbrev pub fits : List (List ℕ) → Form → Bool
fits words form =
    ((length words == word_count form) && is_word words 0 (command_word form))
    && (if has_with form then is_word words (behind_case form) (codes "with") else true)

-- the form of words that name a case of this form, or none
abbrev pub form_with : List (List ℕ) → Option CaseForm → Option Form
form_with words None = None
form_with words (Some from) = find (fits words) (map (λ command. Case command from) case_commands)

-- a trial of a number of rows from 1 to 100 and of any seed, where both are numbers
abbrev pub trial_form : Option ℕ → Option ℕ → Option Form
trial_form (Some rows) (Some seed) = if nat_lt 0 rows && nat_lt rows 101 then Some (Trial rows seed) else None
trial_form (Some rows) None = None
trial_form None seed = None

-- the form that the words have
abbrev pub form_of : List (List ℕ) → Option Form
form_of words =
    if fits words Topology then Some Topology
    else if (length words == 3) && is_word words 0 (codes "trial")
    then trial_form (whole_of (slice_index_or words 1 [])) (whole_of (slice_index_or words 2 []))
    else form_with words (case_form_of words)

-- the usage line
abbrev pub usage_text : List ℕ
usage_text = codes "usage: obs topology N S | report FORM | place FORM CAND | session FORM | verify FORM CERT | trial N SEED | outages FORM | pairs FORM | stations FORM\n"
